use Rattle.std.proofs.Common.{◌≡◌, ◌+◌, ◌≤◌, ◌++◌, ◌∷◌, [], length, rules, arith, ◌∙◌, ap}
use Rattle.std.proofs.lemmas.List.{length_push}
use Rattle.rv_sizes.specs.declared.items.Packed.TheVariants.{Other}
use Rattle.rv_sizes.proofs.PackingLemmas.{stand_with_another, inside_with_another}
use Rattle.rv_sizes.proofs.items.Items.push.Goals as goal

pub invariant_of-self-2 : goal.invariant_of-self-2
invariant_of-self-2 c =
    let packed : c.push-3.new.self.items ≡ c.self.inside.packed.items ++ Other c.len-index.result ∷ [] = search rules in
    let others : c.push-2.new.self.items ≡ c.self.inside.others.items ++ c.args.item ∷ [] = search rules in
    let is : c.len-index.result ≡ length c.self.inside.others.items = search rules in
    record {
      inside = rw (others, packed) (inside_with_another c.self.inside.others.items c.args.item c.self.inside.packed.items c.len-index.result c.self.invariant.inside is);
      fewer =
          let fewer : length c.self.inside.others.items ≤ length c.self.inside.packed.items = c.self.invariant.fewer in
          let longer : length c.push-3.new.self.items ≡ length c.self.inside.packed.items + 1 = ap length packed ∙ length_push c.self.inside.packed.items _ in
          let more : length c.push-2.new.self.items ≡ length c.self.inside.others.items + 1 = ap length others ∙ length_push c.self.inside.others.items _ in
          omega arith;
    }

pub returns-clause-ok : goal.returns-clause-ok
returns-clause-ok c =
    let packed : c.push-3.new.self.items ≡ c.self.inside.packed.items ++ Other c.len-index.result ∷ [] = search rules in
    let others : c.push-2.new.self.items ≡ c.self.inside.others.items ++ c.args.item ∷ [] = search rules in
    let is : c.len-index.result ≡ length c.self.inside.others.items = search rules in
    rw (others, packed, ← c.self.view_is) (stand_with_another c.self.inside.others.items c.args.item c.self.inside.packed.items c.len-index.result c.self.invariant.inside is)
