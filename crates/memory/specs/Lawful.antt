-- The layers keep the laws of a memory.
use Rattle.std.specs.Prelude.{◌≡◌, ℕ, ◌*◌, ◌/◌, min, List, length, Option}
use Rattle.std.proofs.Math.Nat.{min-le_right}
use Rattle.std.proofs.lemmas.Bool.{cond_both}
use Rattle.memory.specs.Layers.{even, interleaved, screened}
use Rattle.memory.specs.Meaning.{Mem, Lawful}

pub lawful_interleave : {a b : Mem} → Lawful a → Lawful b → Lawful (interleaved a b)
lawful_interleave {a} {b} la lb =
    record {
      bounded = min-le_right (2 * min a.count b.count) 1048576;
      four =
          λ block. cond_both (even block) (a.words (block / 2)) (b.words (block / 2))
          (λ ws. length ws ≡ 4) (λ h. la.four (block / 2)) (λ h. lb.four (block / 2));
    }

pub lawful_screen : (dead : List (Option ℕ)) {m : Mem} → Lawful m → Lawful (screened dead m)
lawful_screen dead l = record { bounded = l.bounded; four = l.four }
