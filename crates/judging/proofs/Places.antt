-- The places of the fields in the line of a step.
use Rattle.std.proofs.Common.{◌≡◌, ℕ, ◌+◌, ◌-◌, ◌==◌, true, false, List, [], ◌∷◌, ◌++◌, length, take, drop, get_or, sym, refl, ap, ◌∙◌, arith, append_assoc, length-append, length-drop}
use Rattle.std.specs.Prelude.{◌≢◌, if◌then◌else◌}
use Rattle.std.specs.Str.{bytes_eq}
use Rattle.std.proofs.lemmas.List.{drop-drop, drop_at, take_at, get_or-drop, get_or-append_right}
use Rattle.std.proofs.lemmas.Slice.Eq.{bytes_eq-Decides}
use Rattle.text.specs.declared.step.Step.{Step}
use Rattle.text.specs.Digits.{fixed}
use Rattle.text.specs.Lines.{field, shown_of, line_of}
use Rattle.text.specs.Names.{command_named}
use Rattle.judging.specs.declared.fields.Field.{Field}
use Rattle.judging.specs.declared.fields.Field.TheVariants as named
use Rattle.judging.specs.Lines.{text_of}
use Rattle.judging.specs.Fields.{is_step, step_field, field_in, field_of}
use Rattle.judging.specs.Shown.{apart, step_difference, NamesField}
use Rattle.judging.proofs.Widths.{digits_long, command_long, names_long}

-- a field in a text, and what stands behind it
module _ (text x rest : List ℕ) (p n : ℕ) (here : drop p text ≡ field x ++ rest)
    (long : length x ≡ n) where
  behind : drop (p + (n + 1)) text ≡ rest
  behind =
      let all = length-append x (32 ∷ []) in
      sym (drop-drop (n + 1) p text) ∙ ap (drop (n + 1)) here
      ∙ drop_at (field x) rest (n + 1) (omega arith)

  front : take n (drop p text) ≡ x
  front =
      ap (take n) (here ∙ append_assoc x (32 ∷ []) rest) ∙ take_at x ((32 ∷ []) ++ rest) n long

  space : get_or text (p + n) 0 ≡ 32
  space =
      let split = here ∙ append_assoc x (32 ∷ []) rest in
      let none : n - n ≡ 0 = omega arith in
      sym (get_or-drop p text n 0) ∙ ap (λ ys. get_or ys n 0) split
      ∙ get_or-append_right x ((32 ∷ []) ++ rest) n n 0 long (omega arith)
      ∙ ap (λ i. get_or ((32 ∷ []) ++ rest) i 0) none

-- eight spaces in 44 places
in_form : (text : List ℕ) → length text ≡ 44 → get_or text 7 0 ≡ 32 → get_or text 9 0 ≡ 32
    → get_or text 12 0 ≡ 32 → get_or text 21 0 ≡ 32 → get_or text 24 0 ≡ 32 → get_or text 33 0 ≡ 32
    → get_or text 36 0 ≡ 32 → get_or text 39 0 ≡ 32 → is_step text ≡ true
in_form text long e1 e2 e3 e4 e5 e6 e7 e8 =
    rw long (rw e1 (rw e2 (rw e3 (rw e4 (rw e5 (rw e6 (rw e7 (rw e8 refl))))))))

not_same : (xs ys : List ℕ) → xs ≢ ys → bytes_eq xs ys ≡ false
not_same xs ys other =
    elim (bytes_eq xs ys) as (λ v. v ≡ bytes_eq xs ys → v ≡ false) [
      | true ↦ (λ e. absurd (other ((bytes_eq-Decides xs ys).0 (sym e))))
      | false ↦ (λ e. refl)
    ] refl

-- the text of a step's line, field by field
module _ (s : Step) where
  abbrev pub from_cycles : List ℕ
  from_cycles = fixed 10 4 (shown_of s.answer).cycles

  abbrev pub from_left : List ℕ
  from_left = field (shown_of s.answer).left ++ from_cycles

  abbrev pub from_found : List ℕ
  from_found = field (shown_of s.answer).found ++ from_left

  abbrev pub from_word : List ℕ
  from_word = field (fixed 16 8 (shown_of s.answer).word) ++ from_found

  abbrev pub from_answer : List ℕ
  from_answer = field (shown_of s.answer).name ++ from_word

  abbrev pub from_address : List ℕ
  from_address = field (fixed 16 8 s.request.address) ++ from_answer

  abbrev pub from_command : List ℕ
  from_command = field (command_named s.request.command) ++ from_address

  abbrev pub from_processor : List ℕ
  from_processor = field (fixed 10 1 s.request.processor) ++ from_command

  abbrev pub whole_text : List ℕ
  whole_text = field (fixed 10 7 s.number) ++ from_processor

  pub line_split : line_of s ≡ whole_text ++ (10 ∷ [])
  unfolding line_of
  line_split = sym (simp append_assoc)

  -- what stands where in the text of a step's line
  record Placed : Type 0 where
    number : take 7 (drop 0 whole_text) ≡ fixed 10 7 s.number
    processor : take 1 (drop 8 whole_text) ≡ fixed 10 1 s.request.processor
    command : take 2 (drop 10 whole_text) ≡ command_named s.request.command
    address : take 8 (drop 13 whole_text) ≡ fixed 16 8 s.request.address
    answer : take 2 (drop 22 whole_text) ≡ (shown_of s.answer).name
    word : take 8 (drop 25 whole_text) ≡ fixed 16 8 (shown_of s.answer).word
    found : take 2 (drop 34 whole_text) ≡ (shown_of s.answer).found
    left : take 2 (drop 37 whole_text) ≡ (shown_of s.answer).left
    step_line : is_step whole_text ≡ true

  placed : Placed
  placed =
      let names = names_long s.answer in
      let n1 = digits_long 10 7 s.number in
      let n2 = digits_long 10 1 s.request.processor in
      let n3 = command_long s.request.command in
      let n4 = digits_long 16 8 s.request.address in
      let n6 = digits_long 16 8 (shown_of s.answer).word in
      let n9 = digits_long 10 4 (shown_of s.answer).cycles in
      let h2 : drop 8 whole_text ≡ from_processor = behind whole_text _ _ 0 7 refl n1 in
      let h3 : drop 10 whole_text ≡ from_command = behind whole_text _ _ 8 1 h2 n2 in
      let h4 : drop 13 whole_text ≡ from_address = behind whole_text _ _ 10 2 h3 n3 in
      let h5 : drop 22 whole_text ≡ from_answer = behind whole_text _ _ 13 8 h4 n4 in
      let h6 : drop 25 whole_text ≡ from_word = behind whole_text _ _ 22 2 h5 names.name in
      let h7 : drop 34 whole_text ≡ from_found = behind whole_text _ _ 25 8 h6 n6 in
      let h8 : drop 37 whole_text ≡ from_left = behind whole_text _ _ 34 2 h7 names.found in
      let h9 : drop 40 whole_text ≡ from_cycles = behind whole_text _ _ 37 2 h8 names.left in
      let end = ap length h9 in
      let all = length-drop 40 whole_text in
      let long : length whole_text ≡ 44 = omega arith in
      record {
        number = front whole_text _ _ 0 7 refl n1;
        processor = front whole_text _ _ 8 1 h2 n2;
        command = front whole_text _ _ 10 2 h3 n3;
        address = front whole_text _ _ 13 8 h4 n4;
        answer = front whole_text _ _ 22 2 h5 names.name;
        word = front whole_text _ _ 25 8 h6 n6;
        found = front whole_text _ _ 34 2 h7 names.found;
        left = front whole_text _ _ 37 2 h8 names.left;
        step_line = in_form whole_text long (space whole_text _ _ 0 7 refl n1)
            (space whole_text _ _ 8 1 h2 n2) (space whole_text _ _ 10 2 h3 n3)
            (space whole_text _ _ 13 8 h4 n4) (space whole_text _ _ 22 2 h5 names.name)
            (space whole_text _ _ 25 8 h6 n6) (space whole_text _ _ 34 2 h7 names.found)
            (space whole_text _ _ 37 2 h8 names.left);
      }

-- a line's text, where it ends with byte 10
text_ended : (xs : List ℕ) → text_of (xs ++ (10 ∷ [])) ≡ xs
text_ended xs =
    let all = length-append xs (10 ∷ []) in
    let before : length (xs ++ (10 ∷ [])) - 1 ≡ length xs = omega arith in
    let none : length xs - length xs ≡ 0 = omega arith in
    let last : get_or (xs ++ (10 ∷ [])) (length xs) 0 ≡ 10
    = get_or-append_right xs (10 ∷ []) (length xs) (length xs) 0 refl (omega arith)
    ∙ ap (λ i. get_or (10 ∷ []) i 0) none in
    ap (λ n. if get_or (xs ++ (10 ∷ [])) n 0 == 10
    then take n (xs ++ (10 ∷ [])) else xs ++ (10 ∷ [])) before
    ∙ ap (λ b. if b == 10 then take (length xs) (xs ++ (10 ∷ [])) else xs ++ (10 ∷ [])) last
    ∙ take_at xs (10 ∷ []) (length xs) refl

-- the fields of two lines as one chain of tests
chain : (a1 b1 a2 b2 a3 b3 a4 b4 a5 b5 a6 b6 a7 b7 a8 b8 : List ℕ) → Field
chain a1 b1 a2 b2 a3 b3 a4 b4 a5 b5 a6 b6 a7 b7 a8 b8 =
    if apart a1 b1 then named.Step
    else if apart a2 b2 then named.Processor
    else if apart a3 b3 then named.Command
    else if apart a4 b4 then named.Address
    else if apart a5 b5 then named.Answer
    else if apart a6 b6 then named.Word
    else if apart a7 b7 then named.Found
    else if apart a8 b8 then named.Left
    else named.Cycles

module _ (a b : Step) where
  fields_same : step_field (whole_text a) (whole_text b) ≡ step_difference a b
  unfolding chain
  fields_same =
      let x = placed a in
      let y = placed b in
      λ i. chain (x.number i) (y.number i) (x.processor i) (y.processor i) (x.command i) (y.command i)
      (x.address i) (y.address i) (x.answer i) (y.answer i) (x.word i) (y.word i) (x.found i) (y.found i)
      (x.left i) (y.left i)

  texts_named : whole_text a ≢ whole_text b
      → field_in (whole_text a) (whole_text b) ≡ step_difference a b
  texts_named other =
      let differ = not_same (whole_text a) (whole_text b) other in
      rw differ (rw (placed a).step_line (rw (placed b).step_line fields_same))

pub steps_named : (ours theirs : List ℕ) (f : Field) → f ≡ field_of ours theirs
    → NamesField ours theirs f
steps_named ours theirs f e a b our their other =
    let ours_text : text_of ours ≡ whole_text a
    = ap text_of (our ∙ line_split a) ∙ text_ended (whole_text a) in
    let theirs_text : text_of theirs ≡ whole_text b
    = ap text_of (their ∙ line_split b) ∙ text_ended (whole_text b) in
    e ∙ (λ i. field_in (ours_text i) (theirs_text i))
    ∙ texts_named a b (λ same. other (our ∙ line_split a ∙ ap (λ x. x ++ (10 ∷ [])) same
    ∙ sym (their ∙ line_split b)))
