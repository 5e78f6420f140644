-- Encoding and decoding undo each other.
use Rattle.std.proofs.Common.{◌≡◌, ℕ, zero, suc, ◌+◌, ◌/◌, ◌%◌, ◌<◌, ◌≤◌, List, [], ◌∷◌, ◌++◌, length, get_or, take, drop, Some, sym, refl, ap, ◌∙◌, arith}
use Rattle.std.proofs.lemmas.List.{drop_more, take_all}
use Rattle.std.proofs.lemmas.Bool.Decides.{nat_tests}
use Rattle.protocol.specs.declared.command.Command.{Command}
use Rattle.trace.specs.declared.record.Record.{Record}
use Rattle.trace.specs.Records.{number_at, number_bytes, code_of, data_of, wordless_for, command_for, encoded}
use Rattle.trace.proofs.Numbers.{bytes_of_number}

abbrev pub with_command : ℕ → ℕ → ℕ → Command → Record
with_command stamp processor address command =
    record {
      stamp = stamp;
      request = record { processor = processor; command = command; address = address };
    }

wordless_code : (code : ℕ) (c : Command) → wordless_for code ≡ Some c
    → (code_of c ≡ code) × (data_of c ≡ 0)
wordless_code code c e = (grind (arith, nat_tests), grind (arith, nat_tests))

command_code : (code w : ℕ) (c : Command) → command_for code w ≡ Some c
    → (code_of c ≡ code) × (data_of c ≡ w)
command_code code w c e =
    (grind (arith, nat_tests, wordless_code), grind (arith, nat_tests, wordless_code))

-- a list is its elements, one after another
abbrev spelled : List ℕ → ℕ → ℕ → List ℕ
spelled bs at zero = []
spelled bs at (suc n) = get_or bs at 0 ∷ spelled bs (at + 1) n

spelled_part : (bs : List ℕ) (n at : ℕ) → at + n ≤ length bs → spelled bs at n ≡ take n (drop at bs)
spelled_part bs zero at h = refl
spelled_part bs (suc n) at h =
    let here : at < length bs = omega arith in
    ap (λ ys. get_or bs at 0 ∷ ys) (spelled_part bs n (at + 1) (omega arith))
    ∙ sym (ap (take (suc n)) (drop_more bs at 0 here))

spelled_whole : (bs : List ℕ) → length bs ≡ 16 → spelled bs 0 16 ≡ bs
spelled_whole bs long = spelled_part bs 16 0 (omega arith) ∙ take_all 16 bs (omega arith)

-- the numbers that four bytes are, written again, are those bytes
module _ (bs : List ℕ) (each : (i : ℕ) → get_or bs i 0 < 256) where
  abbrev four_at : ℕ → List ℕ
  four_at at =
      get_or bs at 0
      ∷ (get_or bs (at + 1) 0 ∷ (get_or bs (at + 2) 0 ∷ (get_or bs (at + 3) 0 ∷ [])))

  four_again : (at : ℕ) → number_bytes (number_at bs at) ≡ four_at at
  four_again at =
      bytes_of_number (get_or bs at 0) (get_or bs (at + 1) 0) (get_or bs (at + 2) 0)
      (get_or bs (at + 3) 0) (each at) (each (at + 1)) (each (at + 2)) (each (at + 3))

  -- what stands in the bytes, and the command that their code and data are
  abbrev pub Stands : ℕ → ℕ → ℕ → Command → Type 0
  Stands s p a c =
      (length bs / 4 ≡ 4) × (length bs % 4 ≡ 0) × (s ≡ number_at bs 0) × (p ≡ get_or bs 4 0)
      × (a ≡ number_at bs 8) × (get_or bs 6 0 ≡ 0) × (get_or bs 7 0 ≡ 0)
      × (Some c ≡ command_for (get_or bs 5 0) (number_at bs 12))

  abbrev parts : ℕ → ℕ → ℕ → ℕ → ℕ → ℕ → ℕ → List ℕ
  parts s p k z y a d = number_bytes s ++ (p ∷ (k ∷ (z ∷ (y ∷ (number_bytes a ++ number_bytes d)))))

  pub encode_met : (s p a : ℕ) (c : Command) → Stands s p a c → encoded (with_command s p a c) ≡ bs
  encode_met s p a c h =
      let (four, whole, es, ep, ea, z6, z7, e) = h in
      let long : length bs ≡ 16 = omega arith in
      let (code, word) = command_code (get_or bs 5 0) (number_at bs 12) c (sym e) in
      (λ j. parts (es j) (ep j) (code j) (sym z6 j) (sym z7 j) (ea j) (word j))
      ∙ (λ j. four_again 0 j ++ (get_or bs 4 0 ∷ (get_or bs 5 0 ∷ (get_or bs 6 0
      ∷ (get_or bs 7 0 ∷ (four_again 8 j ++ four_again 12 j))))))
      ∙ spelled_whole bs long
