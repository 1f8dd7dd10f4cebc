use Rattle.std.proofs.Common.{◌≡◌, arith, ◌∙◌, sym, ap, subst, true, false, is_some, length, List, ℕ, None, Some, cond, bytes_eq}
use Rattle.rv_list_laws.proofs.OptionsLemmas.{copied_some, none_by_test}
use Rattle.rv_object_writer.specs.Strings.{IsStringTable, found_in}
use Rattle.rv_object_writer.proofs.NamingLemmas.{put_again, put_first, bytes_more, found_more}
use Rattle.rv_object_writer.proofs.strings.StringTable.put.Goals as goal

pub returns-then-is_some : goal.returns-then-is_some
returns-then-is_some c = λ strings table.
    let key = c.args.name.now in
    let there : is_some (found_in strings key) ≡ true =
    ap is_some (sym (table.found key) ∙ sym c.get.ensures.value) ∙ copied_some c.get.result ∙ sym c.is_some.ensures ∙ c.if-is_some.true in
    subst (λ (ss : List (List ℕ)). IsStringTable ss c.args.self.now) (sym (put_again strings key there)) table

pub returns : goal.returns
returns c = λ strings table.
    let key = c.args.name.now in
    let absent : is_some (found_in strings key) ≡ false =
    ap is_some (sym (table.found key) ∙ sym c.get.ensures.value) ∙ copied_some c.get.result ∙ sym c.is_some.ensures ∙ c.if-is_some.false in
    let at : c.len-offset.result ≡ length c.args.self.now.bytes.items = omega (arith, c.len-offset.ensures, c.args.self.now.bytes.ok.0) in
    let free : found_in strings key ≡ None = none_by_test (found_in strings key) absent in
    subst (λ (ss : List (List ℕ)). IsStringTable ss (record { bytes = c.push.new.self; offsets = c.insert.new.self })) (sym (put_first strings key absent)) (record {
      all = bytes_more strings key _ _ _ table.all c.in_ok-extend_from_slice.ensures.items c.in_ok-push.ensures.items;
      found = λ name.
          found_more key name strings _ _ free (at ∙ ap length table.all)
          (c.in_ok-insert.ensures.updates.0 (record { ref_ptr = (0, 0); now = name }) ∙ ap (λ o. cond (bytes_eq key name) (Some c.len-offset.result) o) (table.found name));
    })
