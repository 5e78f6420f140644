-- What is returned for each refusal: its number and its values.
use Rattle.std.specs.Prelude.{ℕ, Some, None}
use Rattle.protocol.specs.declared.refusal.Refusal.{Refusal}
use Rattle.protocol.specs.declared.refusal.Refusal.TheVariants.{Geometry, DeadList, TableLength, Processor, Address, Waiting, LockHeld, NoLockEntry, NoLock, CopyElsewhere, MachineCheck, Memory, Trailer, Record, Output, Recipe}
use Rattle.protocol.specs.declared.refusal.Returned.{Returned}

-- a number without values
abbrev plain : ℕ → Returned
plain n = record { number = n; found = None; block = None; direction = None; index = None }

abbrev pub returned : Refusal → Returned
returned Geometry = plain 1
returned DeadList = plain 1
returned TableLength = plain 2
returned Processor = plain 3
returned Address = plain 4
returned Waiting = plain 5
returned LockHeld = plain 6
returned NoLockEntry = plain 7
returned NoLock = plain 8
returned CopyElsewhere = plain 9
returned (MachineCheck found) = record (plain 10) { found = Some found }
returned (Memory block way) = record (plain 11) { block = Some block; direction = Some way }
returned Trailer = plain 12
returned (Record index) = record (plain 13) { index = Some index }
returned Output = plain 14
returned Recipe = plain 15

abbrev pub number_of : Refusal → ℕ
number_of r = (returned r).number
