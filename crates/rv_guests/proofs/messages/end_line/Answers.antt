use Rattle.std.proofs.Common.{◌≡◌, ◌∙◌, ◌-◌, Some, sym, subst, take, drop, false, append_assoc, codes, arith}
use Rattle.std.proofs.lemmas.List.{take_all, length-drop}
use Rattle.std.proofs.lemmas.Str.{IsUtf8-from_ascii}
use Rattle.std.specs.Fmt.{digits}
use Rattle.std.specs.Str.{IsAscii}
use Rattle.rv_map.proofs.HexadecimalLemmas.{ascii_hexadecimal}
use Rattle.rv_machine.specs.End.{end_name, address_in_end}
use Rattle.rv_guests.proofs.messages.end_line.Goals as goal

pub returns-in-Ok : goal.returns-in-Ok
returns-in-Ok c =
    let start = c.write_hexadecimal-start.result in
    let all = c.write_hexadecimal-start.new.digits in
    let whole : take (16 - start) (drop start all) ≡ drop start all = take_all (16 - start) (drop start all) (omega (arith, length-drop start all, c.write_hexadecimal-start.array_long)) in
    let text : c.in-Ok.digits.now ≡ digits 16 false c.in-Some.address = c.in-Ok.ensures.cases.0 ∙ (whole ∙ c.write_hexadecimal-start.ensures.written) in
    let has : address_in_end c.args.end.now ≡ Some c.in-Some.address = sym c.address.ensures ∙ c.in-Some.is in
    rw (c.push_str-in-Ok.ensures.bytes, text, c.push_str-2.ensures.bytes, c.push_str.ensures.bytes, c.new-line.ensures, c.name.ensures, has)
    (append_assoc (end_name c.args.end.now) (codes " ") (digits 16 false c.in-Some.address))

pub returns-in_default-from_utf8 : goal.returns-in_default-from_utf8
returns-in_default-from_utf8 c =
    let start = c.write_hexadecimal-start.result in
    let all = c.write_hexadecimal-start.new.digits in
    let whole : take (16 - start) (drop start all) ≡ drop start all = take_all (16 - start) (drop start all) (omega (arith, length-drop start all, c.write_hexadecimal-start.array_long)) in
    let ascii : IsAscii (take (16 - start) (drop start all)) = subst IsAscii (sym (whole ∙ c.write_hexadecimal-start.ensures.written)) (ascii_hexadecimal c.in-Some.address) in
    absurd (c.in_default-from_utf8.ensures.cases.0 (IsUtf8-from_ascii _ ascii))
