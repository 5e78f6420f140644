-- A number below 2^32 and its four bytes.
use Rattle.std.proofs.Common.{◌≡◌, ℕ, ◌+◌, ◌*◌, ◌/◌, ◌%◌, ◌<◌, [], ◌∷◌, arith}
use Rattle.trace.specs.Records.{number_bytes}

module _ (b0 b1 b2 b3 : ℕ) (h0 : b0 < 256) (h1 : b1 < 256) (h2 : b2 < 256) (h3 : b3 < 256) where
  abbrev whole : ℕ
  whole = b0 + b1 * 256 + b2 * 65536 + b3 * 16777216

  pub bytes_of_number : number_bytes whole ≡ b0 ∷ (b1 ∷ (b2 ∷ (b3 ∷ [])))
  bytes_of_number =
      let first : whole % 256 ≡ b0 = omega arith in
      let second : whole / 256 % 256 ≡ b1 = omega arith in
      let third : whole / 65536 % 256 ≡ b2 = omega arith in
      let fourth : whole / 16777216 % 256 ≡ b3 = omega arith in
      λ i. first i ∷ (second i ∷ (third i ∷ (fourth i ∷ [])))
