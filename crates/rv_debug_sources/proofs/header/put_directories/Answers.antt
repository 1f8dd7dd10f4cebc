use Rattle.std.proofs.lemmas.List.{drop_more}
use Rattle.rv_debug_sources.proofs.LinesLemmas.{directory_next}
use Rattle.rv_debug_sources.proofs.header.put_directories.Goals as goal

pub loop-directory-preserved : goal.loop-directory-preserved
loop-directory-preserved c =
    directory_next c.args.source.now c.args.directories.now c.loop-directory.directory-index _ c.loop-directory.text.items _ _ _
    (drop_more c.args.directories.now c.loop-directory.directory-index _ c.loop-directory-test.true)
    c.in_ok-put_string.ensures c.in_ok-extend_from_slice.ensures.items c.loop-directory.invariant
