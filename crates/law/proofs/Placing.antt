-- The table of lines before and after a done command, place by place.
use Rattle.std.proofs.Common.{◌≡◌, ℕ, ◌<◌, Bool, true, false, cond, not, ◌&&◌, eqb, List, length, set, Some, None, Option, sym, refl, ap, ◌∙◌, subst, inl, inr}
use Rattle.std.proofs.lemmas.Bool.{false≢true}
use Rattle.std.proofs.lemmas.Bool.Decides.{eqb_tells}
use Rattle.std.proofs.lemmas.List.{get_or-set_same, get_or-set_other}
use Rattle.protocol.specs.declared.command.BusCommand.{BusCommand}
use Rattle.protocol.specs.declared.line.Line.{Line}
use Rattle.protocol.specs.declared.measures.Measures.{Measures}
use Rattle.protocol.specs.Entries.{valid}
use Rattle.protocol.specs.Lines.{no_line}
use Rattle.protocol.specs.Places.{line_count}
use Rattle.cluster.specs.Copies.{holds_block, line_of}
use Rattle.cluster.specs.Finishing.{bus_seen}
use Rattle.law.specs.Law.{owner}
use Rattle.law.proofs.Copied.{copy_block}
use Rattle.law.proofs.Hearing.{heard}
use Rattle.law.proofs.Invariant.{at_in, copy, Homed}
use Rattle.law.proofs.Moving.{Moved}
use Rattle.law.proofs.Places.{found_at, found_none, window_inside_table}
use Rattle.law.proofs.Replacing.{without, without_here, without_elsewhere, without_fewer, copy_fewer}
use Rattle.law.proofs.Snooped.{snooped_at_places, length_others_snooped}
use Rattle.law.proofs.Taking.{WayHome}

-- a copy in the asking cache is left as it was
by_both : (h o : Bool) (x y : Line) → (h ≡ true → o ≡ false) → cond (h && not o) x y ≡ cond h x y
by_both false o x y f = refl
by_both true o x y f = ap (λ b. cond (not b) x y) (f refl)

module _ (m : Measures) (some_columns : 0 < m.columns) (lines : List Line)
    (fit : length lines ≡ line_count m) (homed : Homed m (at_in lines))
    (p block : ℕ) (listed : p < m.processors) (bus : Option BusCommand) where
  abbrev pub seen : List Line
  seen = bus_seen m bus p block lines

  pub length_seen : length seen ≡ length lines
  length_seen = by_bus bus
    where
      by_bus : (b : Option BusCommand) → length (bus_seen m b p block lines) ≡ length lines
      by_bus None = refl
      by_bus (Some b) = length_others_snooped m some_columns b p block lines

  seen_at : (i : ℕ) → (copy (at_in lines) block i → owner m i ≡ p → ⊥)
      → at_in seen i ≡ cond (holds_block block (at_in lines i)) (heard bus (at_in lines i))
      (at_in lines i)
  seen_at i far = by_bus bus
    where
      same : (h : Bool) (x : Line) → x ≡ cond h x x
      same true x = refl
      same false x = refl

      else : holds_block block (at_in lines i) ≡ true → eqb (owner m i) p ≡ false
      else c = elim (eqb_tells (owner m i) p) [
        | inl own ↦ absurd (far c own.1)
        | inr other ↦ other.0
      ]

      by_bus : (b : Option BusCommand)
          → at_in (bus_seen m b p block lines) i
          ≡ cond (holds_block block (at_in lines i)) (heard b (at_in lines i)) (at_in lines i)
      by_bus None = same (holds_block block (at_in lines i)) (at_in lines i)
      by_bus (Some b) =
          snooped_at_places m some_columns b p block lines fit homed i
          ∙ by_both (holds_block block (at_in lines i)) (eqb (owner m i) p)
          (heard (Some b) (at_in lines i)) (at_in lines i) else

  module _ (k : ℕ) (own : Line) (named : valid own.state ≡ true → own.block ≡ block) where
    abbrev pub placed_at : ℕ → Line
    placed_at = at_in (set seen k own)

    inside_seen : k < length lines → k < length seen
    inside_seen low = subst (λ n. k < n) (sym length_seen) low

    put_there : k < length lines → placed_at k ≡ own
    put_there low = get_or-set_same seen k own no_line (inside_seen low)

    put_elsewhere : (i : ℕ) → (i ≡ k → ⊥) → placed_at i ≡ at_in seen i
    put_elsewhere i far = get_or-set_other seen k i own no_line far

    -- where the own cache has the block
    pub hit_moved : line_of m lines p block ≡ Some k → Moved m (at_in lines) placed_at block k p bus own
    hit_moved e =
        let found = found_at m some_columns lines fit homed p block k listed e in
        record {
          place = put_there
              (window_inside_table m some_columns lines fit (owner m k) block k found.home.listed
              found.home.to);
          named = named;
          owned = found.owned;
          home = found.home;
          here = λ b c. sym (copy_block b (at_in lines k) c)
              ∙ copy_block block (at_in lines k) found.copied;
          mine = λ i c o. homed.once block i k c found.copied (o ∙ sym found.owned);
          others = λ i far. put_elsewhere i far
              ∙ seen_at i (λ c o. far (homed.once block i k c found.copied (o ∙ sym found.owned)));
        }

    -- where it does not, and takes a way: the line there is gone before
    pub miss_moved : WayHome m lines p block k → line_of m lines p block ≡ None
        → Moved m (without (at_in lines) k) placed_at block k p bus own
    miss_moved way e = record {
      place = put_there way.inside;
      named = named;
      owned = way.owned;
      home = way.home;
      here = λ b c. absurd (false≢true (sym (ap (holds_block b) (without_here (at_in lines) k)) ∙ c));
      mine = λ i c o. absurd
          (none i (copy_fewer (at_in lines) (without (at_in lines) k) (without_fewer (at_in lines) k)
          block i c) o);
      others = λ i far.
          let stays = without_elsewhere (at_in lines) k i far in
          put_elsewhere i far ∙ seen_at i (none i)
          ∙ ap (λ x. cond (holds_block block x) (heard bus x) x) (sym stays);
    }
      where
        none : (i : ℕ) → copy (at_in lines) block i → owner m i ≡ p → ⊥
        none = found_none m some_columns lines fit homed p block listed e
