use Rattle.std.proofs.Common.{◌≡◌, map, drop}
use Rattle.rv_parse_laws.specs.Words.{named_in}
use Rattle.rv_parse_words.specs.View.{named_of}
use Rattle.rv_parse_words.proofs.words.named_in.Given as goal

-- what is left has for the word what the table has
abbrev pub invariant-loop-row : goal.invariant-loop-row
invariant-loop-row g l = named_in (map named_of (drop l.row-index l.table)) l.word ≡ named_in (map named_of l.table) l.word
