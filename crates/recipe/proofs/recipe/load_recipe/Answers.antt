use Rattle.std.proofs.Common.{◌≤◌, length, sym, ap, ◌∙◌, arith}
use Rattle.std.proofs.lemmas.List.{length-take-le}
use Rattle.trace.specs.Writing.{Closed}
use Rattle.recipe.proofs.Fits.{loaded, most_loaded, some_words, on_ok}
use Rattle.recipe.proofs.Going.{runs_through}
use Rattle.recipe.proofs.recipe.load_recipe.Goals as goal

pub returns-clause-answer : goal.returns-clause-answer
returns-clause-answer c =
    let a = c.args in
    let put = c.put_all-count.ensures in
    let fit : c.put_all-count.result ≤ length c.put_all-count.new.records = omega arith in
    let long = length-take-le c.put_all-count.result c.put_all-count.new.records fit in
    c.write_trace.ensures.answer
    ∙ ap (λ (x : Closed). x.answer)
    (loaded a.output.now a.start a.draws a.words a.processors _
    (sym c.is_lawful.ensures ∙ c.if-not-is_lawful.false) put.records (omega (arith, long)))

pub returns-clause-output : goal.returns-clause-output
returns-clause-output c =
    let a = c.args in
    let put = c.put_all-count.ensures in
    let fit : c.put_all-count.result ≤ length c.put_all-count.new.records = omega arith in
    let long = length-take-le c.put_all-count.result c.put_all-count.new.records fit in
    c.write_trace.ensures.output
    ∙ ap (λ (x : Closed). x.output)
    (loaded a.output.now a.start a.draws a.words a.processors _
    (sym c.is_lawful.ensures ∙ c.if-not-is_lawful.false) put.records (omega (arith, long)))

pub returns-clause-most : goal.returns-clause-most
returns-clause-most c =
    let a = c.args in
    let put = c.put_all-count.ensures in
    let fit : c.put_all-count.result ≤ length c.put_all-count.new.records = omega arith in
    let long = length-take-le c.put_all-count.result c.put_all-count.new.records fit in
    rw c.write_trace.ensures.answer
    (most_loaded a.output.now a.start a.draws a.words a.processors _
    (sym c.is_lawful.ensures ∙ c.if-not-is_lawful.false) put.records (omega (arith, long)))

pub returns-clause-runs : goal.returns-clause-runs
returns-clause-runs c =
    let a = c.args in
    on_ok c.write_trace.result
    (runs_through a.words a.processors a.draws 1 a.start
    (some_words a.draws a.words a.processors (sym c.is_lawful.ensures ∙ c.if-not-is_lawful.false)))
