use Rattle.std.proofs.Common.{◌≡◌, true, false, rules, refl, sym, ap, ◌∙◌, count_by, bytes_eq}
use Rattle.std.specs.List.{list_any}
use Rattle.std.proofs.lemmas.Slice.Eq.{bytes_eq-Decides}
use Rattle.rv_counts.specs.Sums.{counts_mnemonic}
use Rattle.rv_counts.proofs.SumsLemmas.{listed_new, listed_old}
use Rattle.rv_counts.proofs.mnemonics.list.Goals as goal

pub returns-in_ok-push-clause-once : goal.returns-in_ok-push-clause-once
returns-in_ok-push-clause-once c = λ key.
    let xs = c.args.list.now.items in
    let name = c.args.name.now in
    let found : c.is_listed.result ≡ false = search rules in
    let unlisted : list_any (counts_mnemonic name) xs ≡ false = ap (λ l. list_any (counts_mnemonic name) l) (sym c.as_slice.ensures.value) ∙ sym c.is_listed.ensures ∙ found in
    ap (λ l. count_by (counts_mnemonic key) l) c.in_ok-push.ensures.items ∙ listed_new (counts_mnemonic key) (bytes_eq name key) xs _ refl (λ same. ap (λ name. list_any (counts_mnemonic name) xs) (sym ((bytes_eq-Decides name key).0 same)) ∙ unlisted)

pub returns-else-not-is_listed-clause-once : goal.returns-else-not-is_listed-clause-once
returns-else-not-is_listed-clause-once c = λ key.
    let xs = c.args.list.now.items in
    let name = c.args.name.now in
    let found : c.is_listed.result ≡ true = search rules in
    let listed : list_any (counts_mnemonic name) xs ≡ true = ap (λ l. list_any (counts_mnemonic name) l) (sym c.as_slice.ensures.value) ∙ sym c.is_listed.ensures ∙ found in
    listed_old (counts_mnemonic key) (bytes_eq name key) xs (λ same. ap (λ name. list_any (counts_mnemonic name) xs) (sym ((bytes_eq-Decides name key).0 same)) ∙ listed)
