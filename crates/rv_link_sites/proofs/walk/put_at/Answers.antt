use Rattle.std.proofs.Common.{◌*◌, ◌++◌, ◌≤◌, ◌^◌, sym, ap, subst, ◌∙◌}
use Rattle.rv_object_types.specs.Sections.{section_of}
use Rattle.rv_link_sites.specs.Text.{input_of, objects_of}
use Rattle.rv_link_sites.proofs.WalksLemmas.{next_other, next_text, sites_other, sites_text}
use Rattle.rv_link_sites.proofs.walk.put_at.Goals as goal

pub returns-then-not-is_text-clause-end : goal.returns-then-not-is_text-clause-end
returns-then-not-is_text-clause-end c =
    next_other c.args.stop (section_of c.args.input.now.section.now) (sym c.is_text.ensures ∙ c.if-not-is_text.true)

pub returns-then-not-is_text-clause-sites : goal.returns-then-not-is_text-clause-sites
returns-then-not-is_text-clause-sites c =
    sites_other (objects_of c.args.text.now) c.args.stop (input_of c.args.input.now) c.args.sites.now.items (sym c.is_text.ensures ∙ c.if-not-is_text.true)

pub put_section-requires-clause-given : goal.put_section-requires-clause-given
put_section-requires-clause-given c = record {
  among = c.requires.among;
  text = sym c.is_text.ensures ∙ c.if-not-is_text.false;
}

pub put_section-requires-clause-low : goal.put_section-requires-clause-low
put_section-requires-clause-low c =
    subst (λ n. n ≤ 9 * 2 ^ 123) (sym (next_text c.args.stop (section_of c.args.input.now.section.now) (sym c.is_text.ensures ∙ c.if-not-is_text.false))) c.requires.low

pub returns-clause-end : goal.returns-clause-end
returns-clause-end c =
    c.in_ok-end.ensures.end ∙ next_text c.args.stop (section_of c.args.input.now.section.now) (sym c.is_text.ensures ∙ c.if-not-is_text.false)

pub returns-clause-sites : goal.returns-clause-sites
returns-clause-sites c =
    c.in_ok-end.ensures.sites
    ∙ ap (λ l. c.args.sites.now.items ++ l) (sites_text (objects_of c.args.text.now) c.args.stop (input_of c.args.input.now) (sym c.is_text.ensures ∙ c.if-not-is_text.false))
