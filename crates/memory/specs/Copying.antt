-- Copying a block within a memory.
use Rattle.std.specs.Prelude.{ℕ, if◌then◌else◌, Ok, Err, Result}
use Rattle.protocol.specs.declared.refusal.Direction.TheVariants.{Read, Write}
use Rattle.protocol.specs.declared.refusal.Refusal.{Refusal}
use Rattle.protocol.specs.declared.refusal.Refusal.TheVariants.{Memory}
use Rattle.memory.specs.Meaning.{Mem, grants, written}

abbrev pub copied : Mem → ℕ → ℕ → Mem
copied m from to = if grants m from then written m to (m.words from) else m

abbrev pub copying : Mem → ℕ → ℕ → Result (Unit {0}) Refusal
copying m from to =
    if grants m from then (if grants m to then Ok tt else Err (Memory to Write))
    else Err (Memory from Read)
