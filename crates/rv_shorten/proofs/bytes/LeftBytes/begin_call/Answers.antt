use Rattle.std.proofs.Common.{◌≡◌, ◌-◌, ◌∷◌, length, take, drop, slice_index_or, ap, sym, ◌∙◌}
use Rattle.std.proofs.lemmas.List.{drop_more, take_rest}
use Rattle.rv_shorten.specs.Bytes.{left_bytes}
use Rattle.rv_shorten.proofs.OrderLemmas.{zeros}
use Rattle.rv_shorten.proofs.RunningLemmas.{nothing_left, call_begun}
use Rattle.rv_shorten.proofs.bytes.LeftBytes.begin_call.Goals as goal

pub returns-in_default-clause-none : goal.returns-in_default-clause-none
unfolding left_bytes
returns-in_default-clause-none c = λ none.
    let s = c.args.self.now in
    nothing_left s.word s.bytes s.at s.cuts.now s.rest.now c.in_default.len_below none

pub returns-clause-same : goal.returns-clause-same
unfolding left_bytes
returns-clause-same c =
    let s = c.args.self.now in
    let cs = s.cuts.now in
    let parts : cs ≡ slice_index_or cs 0 zeros ∷ take (length cs - 1) (drop 1 cs) =
    drop_more cs 0 zeros c.in-len1-up.len_at_least ∙ ap (λ l. slice_index_or cs 0 zeros ∷ l) (sym (take_rest cs 1)) in
    call_begun s.word c.word_of.result s.bytes c.left_of.result s.at (slice_index_or cs 0 zeros) cs (take (length cs - 1) (drop 1 cs)) s.rest.now c.split_at.result.1.now
    parts s.within c.if-self-gt0.false c.if-cut-self.false c.left_of.ensures c.word_of.ensures c.split_at.ensures.back
