use Rattle.std.proofs.Common.{true, map, sym, subst}
use Rattle.rv_statement.specs.View.{now_of}
use Rattle.rv_image.specs.Views.{linked_of}
use Rattle.rv_chain_laws.specs.Headline.{TheHeadline}
use Rattle.rv_chain.proofs.HeadlinedLemmas.{headlined}
use Rattle.rv_chain.proofs.ReassembledLemmas.{built_again}
use Rattle.rv_chain.proofs.ShownLemmas.{listed_as}
use Rattle.rv_chain.proofs.WrittenLemmas.{built_of, whole_laid_out, whole_map, whole_written}
use Rattle.rv_chain.proofs.building.build_on.Goals as goal

pub returns-clause-headline : goal.returns-clause-headline
returns-clause-headline c =
    let texts = map now_of c.args.sources.now in
    let o = c.args.options in
    let l = linked_of c.in_ok-linked.linked in
    let from = c.in_ok-linked.ensures.program in
    let readable = from.links.2.linked.readable in
    let exe = c.in_ok-built.built.exe.items in
    subst (λ text. TheHeadline texts o.bounds.text o.relax o.gc exe text) (sym (whole_map l from.whole c.in_ok-built.built.map.items from.shown c.in_ok-built.ensures.map))
    (headlined texts o.bounds.text o.relax o.gc from.whole exe (whole_laid_out c.in_ok-linked.linked true from.whole from.shown readable) readable from.program
    (c.linked_runs_agree.ensures o.bounds.text from.program.sources o.relax o.gc from.whole from.program.linked) (c.linked_runs_agree_on.ensures o.bounds.text from.program.sources o.relax o.gc from.whole from.program.linked) (whole_written true l from.whole exe from.shown c.in_ok-built.ensures.exe))

pub returns-clause-listed : goal.returns-clause-listed
returns-clause-listed c =
    let o = c.args.options in
    let l = linked_of c.in_ok-linked.linked in
    let from = c.in_ok-linked.ensures.program in
    let readable = from.links.2.linked.readable in
    let exe = c.in_ok-built.built.exe.items in
    let text = c.in_ok-built.built.map.items in
    listed_as (map now_of c.args.sources.now) o.bounds.text o.relax o.gc from.whole exe text (whole_laid_out c.in_ok-linked.linked true from.whole from.shown readable) readable from.program
    (c.listing_is_the_sources.ensures o.bounds.text from.program.sources o.relax o.gc from.whole from.program.linked) (whole_written true l from.whole exe from.shown c.in_ok-built.ensures.exe) (whole_map l from.whole text from.shown c.in_ok-built.ensures.map)

pub returns-clause-links : goal.returns-clause-links
returns-clause-links c =
    let o = c.args.options in
    let l = linked_of c.in_ok-linked.linked in
    let from = c.in_ok-linked.ensures.program in
    let readable = from.links.2.linked.readable in
    let exe = c.in_ok-built.built.exe.items in
    let text = c.in_ok-built.built.map.items in (
      from.links.0,
      from.links.1,
      built_of from.links.0 o.bounds o.relax o.gc from.whole exe text (whole_laid_out c.in_ok-linked.linked true from.whole from.shown readable) from.links.2 (whole_written true l from.whole exe from.shown c.in_ok-built.ensures.exe)
          (whole_map l from.whole text from.shown c.in_ok-built.ensures.map),
    )

pub returns-clause-reassembles : goal.returns-clause-reassembles
returns-clause-reassembles c =
    let o = c.args.options in
    let from = c.in_ok-linked.ensures.program in
    let exe = c.in_ok-built.built.exe.items in
    built_again c.raw_listings_reassemble.ensures (map now_of c.args.sources.now) o.bounds.text o.relax o.gc from.whole exe (whole_laid_out c.in_ok-linked.linked true from.whole from.shown from.links.2.linked.readable) from.program
    (whole_written true (linked_of c.in_ok-linked.linked) from.whole exe from.shown c.in_ok-built.ensures.exe)

pub returns-clause-values : goal.returns-clause-values
returns-clause-values c =
    let h = returns-clause-headline c in
    record { sources = h.sources; read = h.read; map = h.map; shown = h.shown; fits = h.fits; plain = c.values_are_plain.ensures h.sources h.map c.args.options.bounds.text h.readable h.fits }
