-- A swap-out that memory refuses leaves memory as it was.
use Rattle.std.proofs.Common.{◌≡◌, ℕ, Bool, true, false, cond, ◌&&◌, eqb, List, Some, None, Ok, Err, Option, Result, refl}
use Rattle.protocol.specs.declared.line.Line.{Line}
use Rattle.protocol.specs.declared.refusal.Direction.TheVariants.{Write}
use Rattle.protocol.specs.declared.refusal.Refusal.{Refusal}
use Rattle.protocol.specs.declared.refusal.Refusal.TheVariants.{Memory}
use Rattle.memory.specs.Meaning.{Mem, grants, written}
use Rattle.cluster.specs.Doing.{swapped_out, memory_after}

abbrev granting : Bool → ℕ → Result (Option ℕ) Refusal
granting granted block = cond granted (Ok (Some block)) (Err (Memory block Write))

denied : (granted : Bool) (block : ℕ) (r : Refusal) → Err r ≡ granting granted block → granted ≡ false
denied true block r e = let no_way : ◌≡◌ {A = Bool} true false = cc in no_way
denied false block r e = refl

untouched : (m : Mem) (block : ℕ) (words : List ℕ) → grants m block ≡ false → written m block words ≡ m
untouched m block words e i =
    record { count = m.count; live = m.live; words = λ k. cond (e i && eqb k block) words (m.words k) }

pub swap_refused : (m : Mem) (victim : Option Line) (r : Refusal) → Err r ≡ swapped_out m victim
    → memory_after m victim ≡ m
swap_refused m None r e = refl
swap_refused m (Some line) r e =
    untouched m line.block line.words (denied (grants m line.block) line.block r e)
