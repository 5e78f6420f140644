-- Blocks by the number of their copies.
use Rattle.std.proofs.Common.{◌≡◌, ℕ, ◌^◌, ◌<◌, Bool, true, false, cond, ◌&&◌, eqb, List, [], ◌∷◌, length, map, replicate, Some, None, refl, ap, ◌∙◌, arith}
use Rattle.std.specs.List.{count_by, range_with_len}
use Rattle.std.proofs.lemmas.List.Sums.{sum_by-cons}
use Rattle.std.proofs.lemmas.List.FromFn.{length-map-range_with_len}
use Rattle.protocol.specs.declared.line.Line.{Line}
use Rattle.protocol.specs.Entries.{valid}
use Rattle.stats.specs.Copies.{is_copy_of, copies_of, blocks_by_copies, copy_in, all_counted}
use Rattle.stats.specs.Events.{is_number}
use Rattle.stats.proofs.Tables.{as_one, is_placed, all_counted_by}

copy_placed : (line : Line) (block : ℕ) → is_number block (copy_in line) ≡ is_copy_of block line
copy_placed line block = by_valid (valid line.state)
  where
    by_valid : (b : Bool) → is_number block (cond b (Some line.block) None) ≡ (b && eqb line.block block)
    by_valid true = refl
    by_valid false = refl

count_map : (f : ℕ → ℕ) (k : ℕ) (blocks : List ℕ)
    → count_by (is_placed Some k) (map f blocks) ≡ count_by (λ b. eqb (f b) k) blocks
count_map f k [] = refl
count_map f k (b ∷ bs) =
    let rest = count_map f k bs in
    omega (
      arith,
      rest,
      sum_by-cons (λ x. as_one (eqb x k)) (f b) (map f bs),
      sum_by-cons (λ x. as_one (eqb (f x) k)) b bs,
    )

pub of_blocks : (lines : List Line) (blocks : ℕ) → length lines < 2 ^ 64 → blocks < 2 ^ 64
    → all_counted Some (replicate 9 0) (all_counted copy_in (replicate blocks 0) lines)
    ≡ blocks_by_copies lines blocks
unfolding blocks_by_copies
of_blocks lines blocks short few =
    let copies : all_counted copy_in (replicate blocks 0) lines
    ≡ map (copies_of lines) (range_with_len 0 blocks)
    = all_counted_by copy_in blocks lines short
    ∙ (λ i. map (λ b. count_by (λ line. copy_placed line b i) lines) (range_with_len 0 blocks)) in
    let long = length-map-range_with_len (copies_of lines) 0 blocks in
    ap (all_counted Some (replicate 9 0)) copies
    ∙ all_counted_by Some 9 (map (copies_of lines) (range_with_len 0 blocks)) (omega (arith, long, few))
    ∙ (λ i. map (λ k. count_map (copies_of lines) k (range_with_len 0 blocks) i) (range_with_len 0 9))
