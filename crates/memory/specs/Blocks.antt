-- A read and a write of one block, refused with 11 where memory denies them.
use Rattle.std.specs.Prelude.{ℕ, if◌then◌else◌, List, Ok, Err, Result}
use Rattle.protocol.specs.declared.refusal.Direction.TheVariants.{Read, Write}
use Rattle.protocol.specs.declared.refusal.Refusal.{Refusal}
use Rattle.protocol.specs.declared.refusal.Refusal.TheVariants.{Memory}
use Rattle.memory.specs.Meaning.{Mem, grants}

abbrev pub block_reading : Mem → ℕ → Result (List ℕ) Refusal
block_reading m block = if grants m block then Ok (m.words block) else Err (Memory block Read)

-- what is written is `written` of Meaning
abbrev pub block_granted : Mem → ℕ → Result (Unit {0}) Refusal
block_granted m block = if grants m block then Ok tt else Err (Memory block Write)
