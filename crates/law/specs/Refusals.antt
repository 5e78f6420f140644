-- A refused call changes nothing; a drain that memory stopped alone keeps what it did.
use Rattle.std.specs.Prelude.{◌≡◌, Bool, true, false, not, Ok, Err, Result}
use Rattle.protocol.specs.declared.measures.Measures.{Measures}
use Rattle.protocol.specs.declared.refusal.Refusal.{Refusal}
use Rattle.protocol.specs.declared.refusal.Refusal.TheVariants as refusal
use Rattle.cluster.specs.Board.{Board}
use Rattle.law.specs.Calls.{Call, Said, answered, drained, counted, told, said_by, left_by}

abbrev refuses : {X : Type 0} → Result X Refusal → Bool
refuses (Ok x) = false
refuses (Err e) = true

-- memory stops a drain on its way
abbrev pub on_its_way : Refusal → Bool
on_its_way refusal.Geometry = false
on_its_way refusal.DeadList = false
on_its_way refusal.TableLength = false
on_its_way refusal.Processor = false
on_its_way refusal.Address = false
on_its_way refusal.Waiting = false
on_its_way refusal.LockHeld = false
on_its_way refusal.NoLockEntry = false
on_its_way refusal.NoLock = false
on_its_way refusal.CopyElsewhere = false
on_its_way (refusal.MachineCheck state) = false
on_its_way (refusal.Memory block way) = true
on_its_way refusal.Trailer = false
on_its_way (refusal.Record index) = false
on_its_way refusal.Output = false
on_its_way refusal.Recipe = false

abbrev pub refused_at_once : {X : Type 0} → Result X Refusal → Bool
refused_at_once (Ok x) = false
refused_at_once (Err e) = not (on_its_way e)

abbrev pub refused : Said → Bool
refused (answered r) = refuses r
refused (drained r) = refused_at_once r
refused (counted r) = refuses r
refused (told r) = refuses r

-- for every cluster, whatever its tables and its memory hold
abbrev pub RefusalsChangeNothing : Type 0
RefusalsChangeNothing =
    (m : Measures) (b : Board) (call : Call) → refused (said_by m b call) ≡ true
    → left_by m b call ≡ b
