use Rattle.std.proofs.Common.{◌≡◌, map, drop}
use Rattle.rv_parse_laws.specs.Words.{is_among}
use Rattle.rv_parse_words.proofs.words.is_among.Given as goal

-- what is left has the word where the list has it
abbrev pub invariant-loop-candidate : goal.invariant-loop-candidate
invariant-loop-candidate l = is_among (map (λ w. w.now) (drop l.candidate-index l.words)) l.word ≡ is_among (map (λ w. w.now) l.words) l.word
