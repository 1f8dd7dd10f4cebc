use Rattle.std.proofs.Common.{false, refl}
use Rattle.rv_map_laws.specs.Text.{map_text}
use Rattle.rv_image.specs.Views.{linked_of}
use Rattle.rv_chain.proofs.WrittenLemmas.{built_of, whole_laid_out, whole_written}
use Rattle.rv_chain.proofs.linking.link_objects_exe_on.Goals as goal

pub returns-clause-linked : goal.returns-clause-linked
returns-clause-linked c =
    let o = c.args.options in
    let found = c.in_ok-linked.ensures.program in
    let from = found.1.2 in
    let exe = c.in_ok-exe.exe.items in
    let text = map_text from.whole.map in (
      text,
      (
        found.0,
        (
          found.1.0,
          found.1.1,
          built_of found.1.0 o.bounds o.relax o.gc from.whole exe text (whole_laid_out c.in_ok-linked.linked false from.whole from.shown from.program.linked.readable) from.program
              (whole_written false (linked_of c.in_ok-linked.linked) from.whole exe from.shown c.in_ok-exe.ensures) refl,
        ),
      ),
    )
