-- The records of a recipe may all be put into a trace, so that only the room decides.
use Prim.{Unit, tt}
use Rattle.std.proofs.Common.{◌≡◌, ℕ, zero, suc, ◌+◌, ◌*◌, ◌/◌, ◌%◌, ◌<◌, ◌≤◌, Bool, true, false, cond, ltb, leb, List, [], ◌∷◌, ◌++◌, length, Some, None, Ok, Err, Result, OnOk, IfOk, sym, refl, ap, ◌∙◌, inl, inr, arith}
use Rattle.std.proofs.Math.Nat.{mod-lt}
use Rattle.std.proofs.lemmas.Bool.Decides.{leb_tells, nat_tests}
use Rattle.std.proofs.lemmas.Bool.{and_parts, leb-true}
use Rattle.std.proofs.lemmas.List.{append_assoc, append-nil}
use Rattle.protocol.specs.declared.command.Command.TheVariants.{R, W, LR, UW}
use Rattle.protocol.specs.declared.refusal.Refusal.TheVariants as refusal
use Rattle.trace.specs.declared.record.Record.{Record}
use Rattle.trace.specs.Traces.{follows, when_some}
use Rattle.trace.specs.Writing.{Closed, written, first_refusal, all_written, trace_bytes, write_rule}
use Rattle.recipe.specs.Draws.{drawn, kind_of, processor_of, record_for, records_for, records_drawn, records_of_recipe}
use Rattle.recipe.specs.Recipes.{lawful, recorded, recipe_rule}

-- records of the processors, with stamps that do not fall
abbrev pub Orderly : ℕ → ℕ → List Record → Type 0
Orderly processors stamp [] = Unit {0}
Orderly processors stamp (r ∷ rs) =
    (r.request.processor < processors) × (stamp ≤ r.stamp) × Orderly processors r.stamp rs

module _ (words processors : ℕ) (some : 1 ≤ processors) where
  own : (x : ℕ) → processor_of processors x < processors
  own x = mod-lt (x / 16777216 % 32) (omega (arith, some))

  orderly_for : (number stamp y : ℕ) (rest : List Record) → stamp ≤ number
      → Orderly processors number rest
      → Orderly processors stamp (records_for words processors number y ++ rest)
  unfolding records_for
  orderly_for number stamp y rest low h = by_kind (leb (kind_of y) 4) (leb (kind_of y) 6)
    where
      by_kind : (r w : Bool) → Orderly processors stamp
          (cond r (record_for words processors number y R ∷ [])
          (cond w (record_for words processors number y (W number) ∷ [])
          (record_for words processors number y LR
          ∷ (record_for words processors number y (UW number) ∷ []))) ++ rest)
      by_kind true w = (own y, low, h)
      by_kind false true = (own y, low, h)
      by_kind false false = (own y, low, (own y, omega arith, h))

  pub orderly : (draws number stamp x : ℕ) → stamp ≤ number
      → Orderly processors stamp (records_drawn words processors draws number x)
  unfolding records_drawn
  orderly zero number stamp x low = tt
  orderly (suc draws) number stamp x low =
      orderly_for number stamp (drawn x) (records_drawn words processors draws (number + 1) (drawn x)) low
      (orderly draws (number + 1) number (drawn x) (omega arith))

-- the first record without room is refused, if there is one
short_refused : (processors count stamp long : ℕ) (rs : List Record) → Orderly processors stamp rs
    → count + length rs ≤ 1048576 → count * 16 + 8 ≤ long
    → first_refusal processors count stamp long rs
    ≡ cond (ltb long ((count + length rs) * 16 + 8)) (Some refusal.Output) None
short_refused processors count stamp long [] h few room =
    let fits : ltb long ((count + 0) * 16 + 8) ≡ false = grind (arith, nat_tests) in rw fits refl
short_refused processors count stamp long (r ∷ rs) h few room =
    let own : r.request.processor < processors = h.0 in
    let low : stamp ≤ r.stamp = h.1 in
    let may : follows processors stamp r ≡ true = grind (arith, nat_tests) in
    let more : ltb count 1048576 ≡ true = grind (arith, nat_tests) in
    elim (leb_tells (count * 16 + 24) long) [
      | inl fine ↦
          let here = fine.1 in
          let same : count + 1 + length rs ≡ count + suc (length rs) = omega arith in
          rw (may, more, fine.0)
          (short_refused processors (count + 1) r.stamp long rs h.2 (omega (arith, few))
          (omega (arith, here))
          ∙ ap (λ n. cond (ltb long (n * 16 + 8)) (Some refusal.Output) None) same)
      | inr short ↦
          let here = short.1 in
          let less : ltb long ((count + suc (length rs)) * 16 + 8) ≡ true = grind (arith, nat_tests) in
          rw (may, more, short.0, less) refl
    ]

-- so that writing them is refused for want of room alone
pub only_room : (output : List ℕ) (processors : ℕ) (rs : List Record) → 1 ≤ processors
    → processors ≤ 8 → Orderly processors 0 rs → length rs ≤ 1048576
    → write_rule output processors rs ≡ recorded output processors rs
only_room output processors rs some most h few =
    let low : leb 1 processors ≡ true = grind (arith, nat_tests) in
    let high : leb processors 8 ≡ true = grind (arith, nat_tests) in
    elim (leb_tells 8 (length output)) [
      | inl long ↦
          let room = long.1 in
          let all : 0 + length rs ≡ length rs = omega arith in
          let none = short_refused processors 0 0 (length output) rs h (omega (arith, few))
          (omega (arith, room))
          ∙ ap (λ n. cond (ltb (length output) (n * 16 + 8)) (Some refusal.Output) None) all in
          rw (low, high, long.0) (rw none (by_room (ltb (length output) (length rs * 16 + 8))))
      | inr short ↦
          let none = short.1 in
          let less : ltb (length output) (length rs * 16 + 8) ≡ true = grind (arith, nat_tests) in
          rw (low, high, short.0, less) refl
    ]
  where
    by_room : (b : Bool)
        → all_written output processors rs
        (when_some (cond b (Some refusal.Output) None) (λ e. Err e) (Ok tt))
        ≡ cond b (record { answer = Err refusal.Output; output = output })
        (record {
          answer = Ok (length rs * 16 + 8);
          output = written output 0 (trace_bytes processors rs);
        })
    by_room true = refl
    by_room false = refl

-- one draw more behind those that were read so far
pub next_drawn : (words processors left draws number x y : ℕ) (front front' : List Record)
    → draws ≡ suc left → y ≡ drawn x
    → front' ≡ front ++ records_for words processors number y
    → front' ++ records_drawn words processors left (number + 1) y
    ≡ front ++ records_drawn words processors draws number x
unfolding records_drawn
next_drawn words processors left draws number x y front front' more next put =
    rw (more, put, next) (append_assoc front (records_for words processors number (drawn x))
    (records_drawn words processors left (number + 1) (drawn x)))

pub none_drawn : (words processors draws number x : ℕ) (front : List Record) → draws ≡ 0
    → front ≡ front ++ records_drawn words processors draws number x
unfolding records_drawn
none_drawn words processors draws number x front none = rw none (sym (append-nil front))

pub all_draws : (words processors draws start : ℕ) → 1 ≤ processors
    → Orderly processors 0 (records_drawn words processors draws 1 start)
all_draws words processors draws start some = orderly words processors some draws 1 0 start (omega arith)

-- the processors of a lawful recipe
pub served : (draws words processors : ℕ) → lawful draws words processors ≡ true
    → (1 ≤ processors) × (processors ≤ 8)
served draws words processors h =
    let last = and_parts _ (leb processors 8) h in
    let one = and_parts _ (leb 1 processors) last.0 in (
      leb-true 1 processors one.1,
      leb-true processors 8 last.1,
    )

pub some_words : (draws words processors : ℕ) → lawful draws words processors ≡ true → 1 ≤ words
some_words draws words processors h =
    let four = and_parts _ (leb 1 processors) (and_parts _ (leb processors 8) h).0 in
    let three = and_parts _ (leb words 4194304) four.0 in
    leb-true 1 words (and_parts _ (leb 1 words) three.0).1

-- what writing the records does is what the rule says
pub loaded : (output : List ℕ) (start draws words processors : ℕ) (rs : List Record)
    → lawful draws words processors ≡ true → rs ≡ records_of_recipe start draws words processors
    → length rs ≤ 4000
    → write_rule output processors rs ≡ recipe_rule output start draws words processors
loaded output start draws words processors rs is_lawful same few =
    let (some, most) = served draws words processors is_lawful in
    let all = records_of_recipe start draws words processors in
    let many : length all ≤ 4000 = omega (arith, ap length same, few) in
    ap (write_rule output processors) same
    ∙ only_room output processors all some most (all_draws words processors draws start some)
    (omega (arith, many))
    ∙ sym (rw is_lawful refl)

-- and no more bytes than those of 4,000 records
most_recorded : (output : List ℕ) (processors : ℕ) (rs : List Record) → length rs ≤ 4000
    → IfOk (recorded output processors rs).answer (λ n. n ≤ 4000 * 16 + 8)
most_recorded output processors rs few = by_room (ltb (length output) (length rs * 16 + 8))
  where
    by_room : (b : Bool)
        → IfOk (cond {A = Closed} b (record { answer = Err refusal.Output; output = output })
        (record {
          answer = Ok (length rs * 16 + 8);
          output = written output 0 (trace_bytes processors rs);
        })).answer (λ n. n ≤ 4000 * 16 + 8)
    by_room true = tt
    by_room false = omega (arith, few)

pub most_loaded : (output : List ℕ) (start draws words processors : ℕ) (rs : List Record)
    → lawful draws words processors ≡ true → rs ≡ records_of_recipe start draws words processors
    → length rs ≤ 4000
    → IfOk (write_rule output processors rs).answer (λ n. n ≤ 4000 * 16 + 8)
most_loaded output start draws words processors rs is_lawful same few =
    let all = records_of_recipe start draws words processors in
    let many : length all ≤ 4000 = omega (arith, ap length same, few) in
    rw (loaded output start draws words processors rs is_lawful same few, is_lawful)
    (most_recorded output processors all many)

pub on_ok : {X E P : Type 0} (r : Result X E) → P → OnOk r P
on_ok (Ok x) h = h
on_ok (Err e) h = tt
