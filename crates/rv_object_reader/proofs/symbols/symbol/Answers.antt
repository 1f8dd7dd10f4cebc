use Rattle.std.proofs.Common.{◌≡◌, None, [], unwrap_or, subst, ap, ◌∙◌, rules, of_calls}
use Rattle.rv_elf_laws.specs.FirstFault.{first_true}
use Rattle.rv_object_laws.specs.Valid.{is_shown}
use Rattle.rv_object_file_laws.specs.FirstFault.{symbol_tests}
use Rattle.rv_object_file_laws.specs.Parts.{name_at}
use Rattle.rv_object_reader.proofs.MadeLemmas.{symbol_has}
use Rattle.rv_object_reader.proofs.ValidSymbolsLemmas.{symbol_shown}
use Rattle.rv_object_reader.proofs.symbols.symbol.Goals as goal

pub definition-requires : goal.definition-requires
definition-requires c = symbol_has c.args.checked.now.view.file.now c.args.names.now.table.now c.args.entry.now c.requires.good

pub invariant_of-result : goal.invariant_of-result
invariant_of-result c =
    let file = c.args.checked.now.view.file.now in
    let entry = c.args.entry.now in
    let good = subst (λ names. first_true (symbol_tests file names entry) ≡ None) c.requires.named c.requires.good in
    let name = c.name.ensures ∙ ap (λ names. unwrap_or (name_at names entry.st_name) []) c.requires.named in
    record {
      shown = ap (λ b. is_shown b c.name.result.now) c.binding.ensures ∙ ap (is_shown _) name ∙ symbol_shown file entry good;
      low = search (rules, of_calls);
    }
