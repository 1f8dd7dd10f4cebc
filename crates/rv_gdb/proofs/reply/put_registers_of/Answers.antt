use Rattle.std.proofs.Common.{◌≡◌, ◌++◌, ◌+◌, ℕ, suc, List, [], ◌∷◌, ap, ◌∙◌, arith}
use Rattle.std.specs.List.{flat_map}
use Rattle.std.proofs.lemmas.List.{flat_map_more}
use Rattle.rv_machine.specs.declared.hart.Hart.{Hart}
use Rattle.rv_gdb_packets.specs.Digits.{value_digits}
use Rattle.rv_gdb.specs.Shown.{register_or_pc, values, all_values}
use Rattle.rv_gdb.proofs.reply.put_registers_of.Goals as goal

-- the value of one register more
more : (h : Hart) (n v : ℕ) (start before after : List ℕ) → before ≡ start ++ flat_map value_digits (values h n) → v ≡ register_or_pc h n → after ≡ before ++ value_digits v → after ≡ start ++ flat_map value_digits (values h (n + 1))
more h n v start before after so_far is new =
    let next : suc n ≡ n + 1 = omega arith in
    let last : values h n ++ (v ∷ []) ≡ values h (n + 1) = ap (λ (k : ℕ). values h n ++ (k ∷ [])) is ∙ ap (λ (k : ℕ). values h k) next in
    new ∙ ap (λ (xs : List ℕ). xs ++ value_digits v) so_far ∙ flat_map_more value_digits start (values h n) v ∙ ap (λ (xs : List ℕ). start ++ flat_map value_digits xs) last

whole : (h : Hart) (n : ℕ) (start after : List ℕ) → n ≡ 33 → after ≡ start ++ flat_map value_digits (values h n) → after ≡ start ++ flat_map value_digits (all_values h)
unfolding all_values
whole h n start after is so_far = so_far ∙ ap (λ (k : ℕ). start ++ flat_map value_digits (values h k)) is

pub loop-number-preserved : goal.loop-number-preserved
loop-number-preserved c =
    more c.args.machine.now.hart c.loop-number.number c.value_of.result c.args.reply.now.items c.loop-number.reply.items c.put_value.new.text.items c.loop-number.invariant c.value_of.ensures c.in_ok-put_value.ensures

pub returns : goal.returns
returns c =
    whole c.args.machine.now.hart c.loop-number.number c.args.reply.now.items c.loop-number.reply.items (omega (arith, c.loop-number-test.false, c.loop-number.auto.number-end)) c.loop-number.invariant
