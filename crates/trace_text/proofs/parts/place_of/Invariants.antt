use Rattle.std.proofs.Common.{◌≡◌, ◌+◌, drop}
use Rattle.trace_text.specs.Parts.{place_of}
use Rattle.trace_text.proofs.parts.place_of.Given as goal

-- the separator is searched in the bytes that are left
abbrev pub invariant-loop-place : goal.invariant-loop-place
invariant-loop-place l = l.place + place_of l.separator (drop l.place l.bytes) ≡ place_of l.separator l.bytes
