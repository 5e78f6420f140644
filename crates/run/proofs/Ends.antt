-- A run comes to its end.
use Rattle.std.proofs.Common.{◌≡◌, ℕ, zero, suc, ◌+◌, ◌*◌, ◌<◌, ◌≤◌, Bool, true, false, cond, List, [], ◌∷◌, length, is_some, OnSome, Some, None, Option, sym, refl, ap, subst, ◌∙◌, mul-le-mul_right, arith}
use Rattle.std.specs.Option.{option_map}
use Rattle.protocol.specs.declared.geometry.Geometry.{Geometry}
use Rattle.protocol.specs.declared.measures.Measures.{Measures}
use Rattle.trace.specs.declared.record.Record.{Record}
use Rattle.trace.specs.declared.trace.Trace.{Trace}
use Rattle.trace.specs.Traces.{records_of, when_some}
use Rattle.text.specs.declared.step.Step.{Step}
use Rattle.run.specs.Kept.{Going}
use Rattle.run.specs.Running.{Running, how_many, due, stepped, shown, left, to_go, run_from, steps_from, ran}
use Rattle.run.proofs.Falls.{idle_most}

module _ (m : Measures) (records : List Record) where
  pub going_start : (s : Running) → s.steps + to_go m records s ≤ 999999999
      → Going m records s s (to_go m records s)
  going_start s few = record { enough = omega arith; same_end = refl; few = few }

  -- one step less is enough behind a step
  pub record Further (first s s' : Running) (fuel : ℕ) (step : Step) : Type 0 where
    pub rest : ℕ
    pub one_less : fuel ≡ suc rest
    pub going : Going m records first s' rest
    pub head : steps_from m records fuel s ≡ step ∷ steps_from m records rest s'

  one_step : (first s s' : Running) (fuel i : ℕ) (step : Step) → due m records s ≡ Some i
      → step ≡ shown m records s i → s' ≡ stepped m records s i
      → Going m records first s fuel → to_go m records s' < to_go m records s
      → Further first s s' fuel step
  unfolding run_from steps_from stepped
  one_step first s s' zero i step is-due value after here less =
      let enough = here.enough in absurd (omega (arith, enough, less))
  one_step first s s' (suc n) i step is-due value after here less =
      let enough = here.enough in
      let few = here.few in
      let one : s'.steps ≡ s.steps + 1 = ap (λ x. x.steps) after in
      record {
        rest = n;
        one_less = refl;
        going = record {
          enough = omega (arith, enough, less);
          same_end = ap (run_from m records n) after
              ∙ ap (λ o. when_some o (λ j. run_from m records n (stepped m records s j)) s) (sym is-due)
              ∙ here.same_end;
          few = omega (arith, few, one, less);
        };
        head = ap (λ o. when_some o
            (λ j. shown m records s j ∷ steps_from m records n (stepped m records s j)) []) is-due
            ∙ (λ k. sym value k ∷ steps_from m records n (sym after k));
      }

  module _ (first s s' : Running) (fuel : ℕ) (here : Going m records first s fuel) where
    by_due : (o : Option ℕ) (step : Step) → due m records s ≡ o
        → Some step ≡ option_map (shown m records s) o → s' ≡ when_some o (stepped m records s) s
        → to_go m records s' < to_go m records s → Further first s s' fuel step
    by_due None step e value after less = absurd (cc)
    by_due (Some i) step e value after less =
        one_step first s s' fuel i step e (ap (λ o. when_some o (λ x. x) step) value) after here less

    going_on : (step : Step) → Some step ≡ option_map (shown m records s) (due m records s)
        → s' ≡ when_some (due m records s) (stepped m records s) s
        → to_go m records s' < to_go m records s
        → Further first s s' fuel step
    going_on step value after less = by_due (due m records s) step refl value after less

  module _ (first s : Running) (fuel : ℕ) (here : Going m records first s fuel) where
    none_due : (o : Option ℕ) → None ≡ option_map (shown m records s) o → o ≡ None
    none_due None e = refl
    none_due (Some i) e = absurd (cc)

    no_step : None ≡ option_map (shown m records s) (due m records s) → due m records s ≡ None
    no_step e = none_due (due m records s) e

    at_rest : (n : ℕ) → due m records s ≡ None → run_from m records n s ≡ s
    unfolding run_from
    at_rest zero e = refl
    at_rest (suc n) e = rw e refl

    at_end : due m records s ≡ None → s ≡ ran m records first
    at_end e = sym (at_rest fuel e) ∙ here.same_end

    no_more_steps : (n : ℕ) → due m records s ≡ None → steps_from m records n s ≡ []
    unfolding steps_from
    no_more_steps zero e = refl
    no_more_steps (suc n) e = rw e refl

-- what a call of the step tells of one step, by a cluster and a trace that are still those of the start
module _ (g g' : Geometry) (t t' : Trace) (same : g' ≡ g) (alike : t' ≡ t) (first s s' : Running)
    (fuel : ℕ)
    (here : Going g.measures (records_of t.records.now) first s fuel) where
  abbrev m : Measures
  m = g.measures

  abbrev recs : List Record
  recs = records_of t.records.now

  abbrev shows : Option Step → Geometry → Trace → Type 0
  shows step h u =
      step ≡ option_map (shown h.measures (records_of u.records.now) s)
      (due h.measures (records_of u.records.now) s)

  abbrev leaves : Geometry → Trace → Type 0
  leaves h u = s' ≡ when_some (due h.measures (records_of u.records.now) s)
      (stepped h.measures (records_of u.records.now) s) s

  abbrev falls : Geometry → Trace → Type 0
  falls h u =
      to_go h.measures (records_of u.records.now)
      (when_some (due h.measures (records_of u.records.now) s)
      (stepped h.measures (records_of u.records.now) s) s)
      < to_go h.measures (records_of u.records.now) s

  moved : (P : Geometry → Trace → Type 0) → P g' t' → P g t
  moved P told = subst (λ h. P h t) same (subst (P g') alike told)

  pub goes_on : (step : Step) → shows (Some step) g' t' → leaves g' t' → falls g' t'
      → Further m recs first s s' fuel step
  goes_on step value told less =
      let after = moved leaves told in
      going_on m recs first s s' fuel here step (moved (shows (Some step)) value) after
      (subst (λ x. to_go m recs x < to_go m recs s) (sym after) (moved falls less))

  pub record Stopped : Type 0 where
    pub none : due m recs s' ≡ None
    pub end : s' ≡ ran m recs first
    pub no_more : steps_from m recs fuel s ≡ []

  pub stops : shows None g' t' → leaves g' t' → Stopped
  stops value told =
      let none = no_step m recs first s fuel here (moved (shows None) value) in
      let stays = moved leaves told ∙ ap (λ o. when_some o (stepped m recs s) s) none in
      record {
        none = ap (due m recs) stays ∙ none;
        end = stays ∙ at_end m recs first s fuel here none;
        no_more = no_more_steps m recs first s fuel here fuel none;
      }

  -- the same, where it is only asked whether there was a step
  pub on_some : (r : Option Step) → is_some r ≡ true → shows r g' t' → leaves g' t'
      → OnSome r (falls g' t')
      → (rest : ℕ) × Going m recs first s' rest
  on_some None e value told less = absurd (cc)
  on_some (Some step) e value told less =
      let further = goes_on step value told less in (further.rest, further.going)

  pub on_none : (r : Option Step) → is_some r ≡ false → shows r g' t' → leaves g' t' → Stopped
  on_none None e value told = stops value told
  on_none (Some step) e value told = absurd (cc)

some_many : (test : ℕ → Bool) (n from : ℕ) → how_many test from n ≤ n
some_many test zero from = omega arith
some_many test (suc n) from = let rest = some_many test n (from + 1) in by_one (test from) rest
  where
    by_one : (b : Bool) → how_many test (from + 1) n ≤ n → cond b 1 0 + how_many test (from + 1) n ≤ suc n
    by_one true h = omega (arith, h)
    by_one false h = omega (arith, h)

-- a run starts with few steps to go
pub start_few : (m : Measures) (records : List Record) (s : Running) → m.processors ≤ 8
    → length records ≤ 1048576 → s.steps ≡ 0
    → s.steps + to_go m records s ≤ 999999999
start_few m records s eight few none =
    let some = some_many s.unfinished (length records) 0 in
    let idle-few = idle_most m.processors s.board.processors in
    let product : m.processors * left m records s ≤ 8 * left m records s =
    mul-le-mul_right (left m records s) eight in
    omega (arith, some, idle-few, product, none)
