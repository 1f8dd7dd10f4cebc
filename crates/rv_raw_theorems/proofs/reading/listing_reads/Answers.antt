use Rattle.rv_listing_laws.specs.Raw.{raw_lines}
use Rattle.rv_raw_theorems.specs.Statements.{raw_statements}
use Rattle.rv_raw_theorems.proofs.LinesLemmas.{lines_read}
use Rattle.rv_raw_theorems.proofs.ListingLemmas.{listing_is}
use Rattle.rv_raw_theorems.proofs.reading.listing_reads.Goals as goal

pub returns : goal.returns
returns c before after said short = lines_read (raw_lines before after) (raw_statements before after) (listing_is before after said) short
