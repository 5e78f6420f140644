-- What a done command leaves of its block is coherent, and the ledger's words are among the blocks' words.
use Rattle.std.proofs.Common.{◌≡◌, ℕ, Bool, true, false, cond, List, length, Some, None, Option, sym, refl, ap, ◌∙◌, subst, inl, inr}
use Rattle.std.proofs.lemmas.Bool.{false≢true}
use Rattle.std.proofs.lemmas.Bool.Decides.{eqb_tells}
use Rattle.protocol.specs.declared.command.BusCommand.{BusCommand}
use Rattle.protocol.specs.declared.command.BusCommand.TheVariants.{F}
use Rattle.protocol.specs.declared.command.Command.{Command}
use Rattle.protocol.specs.declared.line.Line.{Line}
use Rattle.protocol.specs.declared.measures.Measures.{Measures}
use Rattle.protocol.specs.declared.state.State.{State}
use Rattle.protocol.specs.declared.state.State.TheVariants.{I, S, EC, EM}
use Rattle.protocol.specs.Acting.{words_left}
use Rattle.protocol.specs.Entries.{valid, modified}
use Rattle.protocol.specs.Lines.{blank_line, in_state}
use Rattle.law.specs.Ledger.{Ledger, block_of, done_by}
use Rattle.law.proofs.Hearing.{in_valid_state, block_in_state}
use Rattle.law.proofs.Invariant.{copy, Coherent, Tied}
use Rattle.law.proofs.Moving.{Moved}
use Rattle.law.proofs.Owning.{Only, owns, shares, unmoved}
use Rattle.law.proofs.Words.{purging, fresh, with_words, tied_words, tied_purged}

-- the words that blocks have after a command, as the lines, memory and the ledger have them
pub record Truth (after : ℕ → Line) (mem : ℕ → List ℕ) (l : Ledger) : Type 0 where
  pub words : ℕ → List ℕ
  pub coherent : Coherent after mem words
  pub tied : Tied words l

abbrev pub own_line : Command → ℕ → List ℕ → State → Line
own_line c address ws left =
    in_state (record { state = left; block = block_of address; words = words_left c address ws }) left

pub own_named : (c : Command) (address : ℕ) (ws : List ℕ) (left : State)
    → valid (own_line c address ws left).state ≡ true
    → (own_line c address ws left).block ≡ block_of address
own_named c address ws left v =
    block_in_state (record { state = left; block = block_of address; words = words_left c address ws })
    left v

module _ {m : Measures} {at after : ℕ → Line} {k asking : ℕ} {bus : Option BusCommand} (c : Command)
    (address : ℕ) (ws : List ℕ) (left : State)
    (moved : Moved m at after (block_of address) k asking bus (own_line c address ws left)) where
  abbrev block : ℕ
  block = block_of address

  abbrev own : Line
  own = own_line c address ws left

  module _ {mem truth : ℕ → List ℕ} (coherent : Coherent at mem truth) where
    pub data Kind : Type 0 where
      left_em : Only moved → left ≡ EM → purging c address ≡ false → Kind
      left_ec : Only moved → left ≡ EC → words_left c address ws ≡ ws → purging c address ≡ false
          → fresh c address ≡ false → mem block ≡ truth block → Kind
      left_i : Only moved → left ≡ I → purging c address ≡ true → Kind
      left_s : bus ≡ Some F → left ≡ S → words_left c address ws ≡ ws → purging c address ≡ false
          → fresh c address ≡ false
          → ((i : ℕ) → copy at block i → i ≡ k → ⊥) → Kind
      kept : bus ≡ None → own ≡ at k → words_left c address ws ≡ ws → purging c address ≡ false
          → fresh c address ≡ false → Kind

    own_words : (s : State) → left ≡ s → valid s ≡ true → own.words ≡ words_left c address ws
    own_words s e v =
        ap (λ x. x.words)
        (in_valid_state (record { state = left; block = block; words = words_left c address ws }) left
        (ap valid e ∙ v))

    own_state : (s : State) → left ≡ s → valid s ≡ true → own.state ≡ s
    own_state s e v =
        ap (λ x. x.state)
        (in_valid_state (record { state = left; block = block; words = words_left c address ws }) left
        (ap valid e ∙ v)) ∙ e

    own_blank : left ≡ I → own ≡ blank_line
    own_blank e =
        ap (λ s. in_state (record { state = s; block = block; words = words_left c address ws }) s) e

    with_same : (xs : List ℕ) (l : Ledger) (tied : Tied truth l) → xs ≡ truth block
        → with_words truth l tied address xs ≡ truth
    with_same xs l tied e i b = same b i
      where
        same : (b : ℕ) → with_words truth l tied address xs b ≡ truth b
        same b = elim (eqb_tells b block) [
          | inl here ↦ ap (λ t. cond t xs (truth b)) here.0 ∙ e ∙ ap truth (sym here.1)
          | inr else ↦ ap (λ t. cond t xs (truth b)) else.0
        ]

    pub by_kind : (l : Ledger) → Tied truth l → (ul : Bool) → (fresh c address ≡ false → ws ≡ truth block)
        → length (mem block) ≡ 4
        → Kind → Truth after mem (done_by asking address ul c l)
    by_kind l tied ul has four (left_em only e still) = record {
      words = with_words truth l tied address (words_left c address ws);
      coherent =
          owns moved coherent only (words_left c address ws) (λ v. own_words EM e refl)
          (λ clean. absurd
          (false≢true (sym (clean (ap valid (own_state EM e refl)))
          ∙ ap modified (own_state EM e refl))));
      tied = tied_words truth l tied address asking ul c still ws has;
    }
    by_kind l tied ul has four (left_ec only e same still stale back) = record {
      words = with_words truth l tied address (words_left c address ws);
      coherent =
          owns moved coherent only (words_left c address ws) (λ v. own_words EC e refl)
          (λ clean. back ∙ sym (has stale) ∙ sym same);
      tied = tied_words truth l tied address asking ul c still ws has;
    }
    by_kind l tied ul has four (left_i only e drop) = record {
      words = with_words truth l tied address (mem block);
      coherent =
          owns moved coherent only (mem block)
          (λ v. absurd (false≢true (sym (ap (λ x. valid x.state) (own_blank e)) ∙ v))) (λ clean. refl);
      tied = tied_purged truth l tied address asking ul c drop (mem block) four;
    }
    by_kind l tied ul has four (left_s f e same still stale miss) = record {
      words = with_words truth l tied address (truth block);
      coherent =
          shares moved coherent f (own_state S e refl) (own_words S e refl ∙ same ∙ has stale) miss;
      tied =
          subst (λ w. Tied w (done_by asking address ul c l))
          (ap (with_words truth l tied address) (same ∙ has stale))
          (tied_words truth l tied address asking ul c still ws has);
    }
    by_kind l tied ul has four (kept none is same still stale) = record {
      words = truth;
      coherent = subst (λ x. Coherent x mem truth) (sym (unmoved moved coherent none is)) coherent;
      tied =
          subst (λ w. Tied w (done_by asking address ul c l))
          (with_same (words_left c address ws) l tied (same ∙ has stale))
          (tied_words truth l tied address asking ul c still ws has);
    }
