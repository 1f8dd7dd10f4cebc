use Rattle.std.proofs.Common.{◌≡◌, true, ap, ◌∙◌}
use Rattle.std.specs.List.{list_any}
use Rattle.rv_object_reader.specs.Stretches.{ends_in, is_spread}
use Rattle.rv_object_reader.proofs.EntriesLemmas.{put_meets, put_spread, by_result}
use Rattle.rv_object_reader.proofs.paddings.Paddings.put.Goals as goal

pub invariant_of-self : goal.invariant_of-self
invariant_of-self c = record {
  spread = by_result c.insert.result _ _ (is_spread c.insert.new.self.entries ≡ true) c.insert.ensures.entries c.insert.ensures.err
      (λ h. rw h (put_spread c.args.self.now.by_end.entries c.args.end c.args.start c.requires.some c.args.self.now.spread c.requires.apart))
      (λ h. rw h c.args.self.now.spread);
}

pub returns : goal.returns
returns c = λ a b. ap (list_any (ends_in a b)) c.in_ok-insert.ensures.entries
    ∙ put_meets c.args.self.now.by_end.entries c.args.end c.args.start a b c.requires.some c.args.self.now.spread c.requires.apart
