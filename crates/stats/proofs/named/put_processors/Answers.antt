use Rattle.std.proofs.Common.{◌++◌, ap, ◌∙◌}
use Rattle.stats.specs.Naming.{entries, processor_of}
use Rattle.stats.proofs.Entries.{one_more_of}
use Rattle.stats.proofs.named.put_processors.Goals as goal

pub loop-processor-preserved : goal.loop-processor-preserved
loop-processor-preserved c =
    let answers = processor_of c.args.tally.now in
    let put = c.in_ok-put_processor.ensures in
    put ∙ ap (λ l. l ++ answers c.loop-processor.processor) c.loop-processor.invariant
    ∙ one_more_of answers (entries c.args.list.now.items) c.loop-processor.processor
