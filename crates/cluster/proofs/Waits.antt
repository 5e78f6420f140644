-- A processor that begins to wait leaves one fewer that does not.
use Rattle.std.proofs.Common.{◌≡◌, ℕ, zero, suc, ◌+◌, ◌<◌, cond, List, [], ◌∷◌, length, get_or, set, is_some, None, refl, ap, arith}
use Rattle.std.proofs.lemmas.List.{length-set}
use Rattle.cluster.specs.declared.cluster.Processor.{Processor}
use Rattle.cluster.specs.Making.{resting}
use Rattle.cluster.specs.Waiting.{not_waiting, idle, waiting_for}

pub waits_more : (n : ℕ) (ps : List Processor) (p block : ℕ) (q : Processor) → p < n → p < length ps
    → (get_or ps p resting).waits_for ≡ None → idle n (set ps p (waiting_for q block)) < idle n ps
waits_more n [] p block q k h e = omega arith
waits_more zero (x ∷ xs) p block q k h e = omega arith
waits_more (suc n) (x ∷ xs) zero block q k h e = rw e (omega arith)
waits_more (suc n) (x ∷ xs) (suc p) block q k h e =
    let less : idle n (set xs p (waiting_for q block)) < idle n xs =
    waits_more n xs p block q (omega arith) (omega arith) e in
    omega arith

all_idle : (ps : List Processor) → not_waiting ps ≡ idle (length ps) ps
all_idle [] = refl
all_idle (p ∷ ps) = ap (λ n. cond (is_some p.waits_for) 0 1 + n) (all_idle ps)

pub waits_more_of_all : (ps : List Processor) (p block : ℕ) (q : Processor) → p < length ps
    → (get_or ps p resting).waits_for ≡ None
    → not_waiting (set ps p (waiting_for q block)) < not_waiting ps
waits_more_of_all ps p block q h e =
    rw (all_idle (set ps p (waiting_for q block)), all_idle ps, length-set ps p (waiting_for q block))
    (waits_more (length ps) ps p block q h h e)
