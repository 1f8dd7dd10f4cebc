use Rattle.std.proofs.Common.{false, map, refl}
use Rattle.rv_statement.specs.View.{now_of}
use Rattle.rv_map_laws.specs.Text.{map_text}
use Rattle.rv_image.specs.Views.{linked_of}
use Rattle.rv_chain.proofs.HeadlinedLemmas.{headlined}
use Rattle.rv_chain.proofs.ReassembledLemmas.{built_again}
use Rattle.rv_chain.proofs.ShownLemmas.{listed_as}
use Rattle.rv_chain.proofs.WrittenLemmas.{built_of, whole_laid_out, whole_written}
use Rattle.rv_chain.proofs.building.build_exe_on.Goals as goal

pub returns-clause-builds : goal.returns-clause-builds
returns-clause-builds c =
    let texts = map now_of c.args.sources.now in
    let o = c.args.options in
    let from = c.in_ok-linked.ensures.program in
    let readable = from.links.2.linked.readable in
    let exe = c.in_ok-exe.exe.items in
    let text = map_text from.whole.map in
    let laid = whole_laid_out c.in_ok-linked.linked false from.whole from.shown readable in
    let written = whole_written false (linked_of c.in_ok-linked.linked) from.whole exe from.shown c.in_ok-exe.ensures in
    record {
      map_bytes = text;
      headline = headlined texts o.bounds.text o.relax o.gc from.whole exe laid readable from.program (c.linked_runs_agree.ensures o.bounds.text from.program.sources o.relax o.gc from.whole from.program.linked) (c.linked_runs_agree_on.ensures o.bounds.text from.program.sources o.relax o.gc from.whole from.program.linked) written;
      listed = listed_as texts o.bounds.text o.relax o.gc from.whole exe text laid readable from.program (c.listing_is_the_sources.ensures o.bounds.text from.program.sources o.relax o.gc from.whole from.program.linked) written refl;
      links = (from.links.0, from.links.1, built_of from.links.0 o.bounds o.relax o.gc from.whole exe text laid from.links.2 written refl);
    }

pub returns-clause-reassembles : goal.returns-clause-reassembles
returns-clause-reassembles c =
    let o = c.args.options in
    let from = c.in_ok-linked.ensures.program in
    let exe = c.in_ok-exe.exe.items in
    built_again c.raw_listings_reassemble.ensures (map now_of c.args.sources.now) o.bounds.text o.relax o.gc from.whole exe (whole_laid_out c.in_ok-linked.linked false from.whole from.shown from.links.2.linked.readable) from.program
    (whole_written false (linked_of c.in_ok-linked.linked) from.whole exe from.shown c.in_ok-exe.ensures)
