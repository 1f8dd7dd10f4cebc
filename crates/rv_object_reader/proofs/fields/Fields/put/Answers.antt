use Rattle.std.proofs.Common.{◌≡◌, true, sym, ap, ◌∙◌, arith}
use Rattle.std.specs.List.{list_any, list_all}
use Rattle.std.specs.BTreeMap.{insert_entry}
use Rattle.std.specs.Ordering.{nat_cmp}
use Rattle.std.proofs.lemmas.Bool.{le-leb}
use Rattle.rv_object_reader.specs.Stretches.{starts_in, is_short}
use Rattle.rv_object_reader.proofs.EntriesLemmas.{put_starts, put_back, put_short, found_short, ends_before, by_result}
use Rattle.rv_object_reader.proofs.fields.Fields.put.Goals as goal

pub invariant_of-self-in_default : goal.invariant_of-self-in_default
invariant_of-self-in_default c = record {
  short = rw c.in_ok-other.ensures.entries (put_short c.args.self.now.by_start.entries c.args.start c.args.end c.requires c.args.self.now.short);
}

pub returns-in_default : goal.returns-in_default
returns-in_default c = λ a b. ap (list_any (starts_in a b)) c.in_ok-other.ensures.entries
    ∙ put_starts c.args.self.now.by_start.entries c.args.start c.args.end a b
    (ap (ends_before c.args.end) (sym c.in_ok-other.ensures.old ∙ c.in_default.is))

pub invariant_of-self-then-other-end : goal.invariant_of-self-then-other-end
invariant_of-self-then-other-end c = record {
  short = rw c.in_ok-other.ensures.entries (put_short c.args.self.now.by_start.entries c.args.start c.args.end c.requires c.args.self.now.short);
}

pub returns-then-other-end : goal.returns-then-other-end
returns-then-other-end c = λ a b. ap (list_any (starts_in a b)) c.in_ok-other.ensures.entries
    ∙ put_starts c.args.self.now.by_start.entries c.args.start c.args.end a b
    (ap (ends_before c.args.end) (sym c.in_ok-other.ensures.old ∙ c.in-Some.is) ∙ le-leb c.in-Some.other c.args.end c.if-other-end.true)

pub invariant_of-self-2 : goal.invariant_of-self-2
invariant_of-self-2 c =
    let es = c.args.self.now.by_start.entries in
    let found = sym c.in_ok-other.ensures.old ∙ c.in-Some.is in
    let first : list_all is_short c.insert.new.self.entries ≡ true =
    rw c.in_ok-other.ensures.entries (put_short es c.args.start c.args.end c.requires c.args.self.now.short) in
    record {
      short = by_result c.insert-2.result _ _ (list_all is_short c.insert-2.new.self.entries ≡ true) c.insert-2.ensures.entries c.insert-2.ensures.err
          (λ h. rw h (put_short c.insert.new.self.entries c.args.start c.in-Some.other (found_short es c.args.start c.in-Some.other found c.args.self.now.short) first))
          (λ h. rw h first);
    }

pub returns : goal.returns
returns c = λ a b.
    let es = c.args.self.now.by_start.entries in
    ap (list_any (starts_in a b)) (c.in_ok-insert.ensures.entries ∙ ap (λ first. insert_entry nat_cmp first c.args.start c.in-Some.other) c.in_ok-other.ensures.entries)
    ∙ put_back es c.args.start c.args.end c.in-Some.other a b (sym c.in_ok-other.ensures.old ∙ c.in-Some.is) (omega (arith, c.if-other-end.false))
