-- What reading a block takes from a table, and what writing one leaves in it.
use Rattle.std.proofs.Common.{◌≡◌, ℕ, zero, suc, ◌+◌, ◌-◌, ◌*◌, ◌/◌, ◌<◌, ◌≤◌, true, cond, ◌&&◌, eqb, List, [], ◌∷◌, length, get_or, take, drop, sym, refl, ap, ◌∙◌, inl, inr, arith, rules, length-drop}
use borrow.Rule.Slice.PartMut.{put_mid}
use Rattle.std.specs.Simd.{first_chunks}
use Rattle.std.proofs.lemmas.List.{places, same_lists, drop-drop, length-take}
use Rattle.std.proofs.lemmas.Bool.{cases_eq}
use Rattle.std.proofs.lemmas.Bool.Decides.{nat_tests, eqb_tells}
use Rattle.memory.specs.Meaning.{grants, written}
use Rattle.memory.specs.Words.{blocks_in, block_in, table_of}

inside : (n b : ℕ) → b < blocks_in n → b * 4 + 4 ≤ n
inside n b h = grind (arith, nat_tests)

granting : (ws : List ℕ) (b : ℕ) → b < blocks_in (length ws) → grants (table_of ws) b ≡ true
granting ws b h = grind (arith, nat_tests)

four : (vs ws : List ℕ) (a : ℕ) → length vs ≡ 4
    → ((k : ℕ) → k < 4 → get_or vs k 0 ≡ get_or ws (a + k) 0)
    → vs
    ≡ get_or ws a 0 ∷ (get_or ws (a + 1) 0 ∷ (get_or ws (a + 2) 0 ∷ (get_or ws (a + 3) 0 ∷ [])))
four vs ws a long at =
    same_lists vs _ long
    (λ k d lt.
    grind (
      arith,
      places,
      at 0,
      at 1,
      at 2,
      at 3,
      cases_eq k 0,
      cases_eq k 1,
      cases_eq k 2,
      cases_eq k 3,
    ))

chunk_at : (ws : List ℕ) (n b : ℕ) → b < n
    → get_or (first_chunks 4 n ws) b [] ≡ take 4 (drop (b * 4) ws)
chunk_at ws zero b h = absurd (omega arith)
chunk_at ws (suc n) zero h = refl
chunk_at ws (suc n) (suc b) h =
    let next : 4 + b * 4 ≡ suc b * 4 = omega arith in
    chunk_at (drop 4 ws) n b (omega arith)
    ∙ ap (take 4) (drop-drop (b * 4) 4 ws) ∙ ap (λ k. take 4 (drop k ws)) next

pub block_taken : (ws : List ℕ) (b : ℕ) → b < blocks_in (length ws)
    → get_or (first_chunks 4 (length ws / 4) ws) b [] ≡ block_in ws b
block_taken ws b h =
    let fits : b * 4 + 4 ≤ length ws = inside (length ws) b h in
    chunk_at ws (length ws / 4) b (omega arith)
    ∙ four (take 4 (drop (b * 4) ws)) ws (b * 4) (simp (length-take, length-drop) (omega arith))
    (λ k lt. grind (arith, places))

module _ (ws : List ℕ) (b n : ℕ) (vs : List ℕ) (below : b < blocks_in (length ws)) (size : n ≡ 4)
    (long : length vs ≡ 4) where
  place : (k : ℕ)
      → get_or (put_mid (b * 4) n ws vs) k 0
      ≡ cond (eqb (k / 4) b) (get_or vs (k - b * 4) 0) (get_or ws k 0)
  place k =
      let fits : b * 4 + 4 ≤ length ws = inside (length ws) b below in
      grind (arith, places, nat_tests)

  block_after : (k : ℕ)
      → block_in (put_mid (b * 4) n ws vs) k ≡ cond (eqb k b) vs (block_in ws k)
  block_after k =
      elim (eqb_tells k b) [
        | inl e ↦
            rw (e.0, e.1)
            (sym (four vs (put_mid (b * 4) n ws vs) (b * 4) long
            (λ j lt. grind (arith, place, nat_tests))))
        | inr e ↦ rw e.0 (grind (arith, place, nat_tests))
      ]

  pub table_written : table_of (put_mid (b * 4) n ws vs) ≡ written (table_of ws) b vs
  table_written =
      let fits : b * 4 + 4 ≤ length ws = inside (length ws) b below in
      let each : (k : ℕ)
      → block_in (put_mid (b * 4) n ws vs) k
      ≡ cond (grants (table_of ws) b && eqb k b) vs (block_in ws k)
      = λ k. rw (granting ws b below) (block_after k) in
      let long : length (put_mid (b * 4) n ws vs) ≡ length ws = search (rules, places) in
      λ i. record { count = blocks_in (long i); live = λ k. true; words = λ k. each k i }
