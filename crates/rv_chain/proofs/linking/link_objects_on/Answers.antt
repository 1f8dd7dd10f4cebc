use Rattle.std.proofs.Common.{true}
use Rattle.rv_image.specs.Views.{linked_of}
use Rattle.rv_chain.proofs.WrittenLemmas.{built_of, whole_laid_out, whole_map, whole_written}
use Rattle.rv_chain.proofs.linking.link_objects_on.Goals as goal

pub returns-clause-linked : goal.returns-clause-linked
returns-clause-linked c =
    let o = c.args.options in
    let found = c.in_ok-linked.ensures.program in
    let from = found.1.2 in
    let l = linked_of c.in_ok-linked.linked in
    let exe = c.in_ok-built.built.exe.items in
    let text = c.in_ok-built.built.map.items in (
      found.0,
      (
        found.1.0,
        found.1.1,
        built_of found.1.0 o.bounds o.relax o.gc from.whole exe text (whole_laid_out c.in_ok-linked.linked true from.whole from.shown from.program.linked.readable) from.program
            (whole_written true l from.whole exe from.shown c.in_ok-built.ensures.exe) (whole_map l from.whole text from.shown c.in_ok-built.ensures.map),
      ),
    )
