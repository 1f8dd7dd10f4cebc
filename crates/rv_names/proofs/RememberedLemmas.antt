-- What is known of a name that a symbol of an earlier row has.

use Rattle.std.proofs.Common.{◌≡◌, ℕ, false, Option, Some, None, option_map, List, map, slice_get, sym, ap, ◌∙◌}
use Rattle.std.specs.Global.{Vec}
use Rattle.std.specs.Prelude.{if◌then◌else◌}
use Rattle.std.proofs.lemmas.Option.{slice_get-map}
use Rattle.rv_list_laws.proofs.ElementsLemmas.{get_front}
use Rattle.rv_object_laws.specs.Object.{Symbol, Object}
use Rattle.rv_link_laws.specs.Names.{is_sure}
use Rattle.rv_names.specs.declared.definitions.Exported.{Exported}
use Rattle.rv_names.specs.Chosen.{Definer, Seen, seen, seen_of, first_named}
use Rattle.rv_names.specs.Names.{exported_of, outside, AreRows}

pub known_is : (ds : List Definer) (os : List Object) (rows : List (Vec (Option Exported))) (file index : ℕ) (row : Vec (Option Exported)) (found : Option Exported) (o : Object) (s : Symbol)
    → AreRows ds os rows → slice_get rows file ≡ Some row → slice_get row.items index ≡ Some found → slice_get os file ≡ Some o → slice_get o.symbols index ≡ Some s
    → is_sure s ≡ false → found ≡ option_map exported_of (first_named ds s.name)
known_is ds os rows file index row found o s h has at here there free =
    let one : Seen → Option Exported = outside ds in
    let all : Object → List Seen = λ p. map seen p.symbols in
    let items : List (List (Option Exported)) = map (λ (r : Vec (Option Exported)). r.items) rows in
    let front : slice_get items file ≡ Some row.items = slice_get-map (λ (r : Vec (Option Exported)). r.items) rows file ∙ ap (option_map (λ (r : Vec (Option Exported)). r.items)) has in
    let whole : slice_get (map (map one) (seen_of os)) file ≡ Some (map one (all o)) =
    slice_get-map (map one) (seen_of os) file ∙ ap (option_map (map one)) (slice_get-map all os file ∙ ap (option_map all) here) in
    let both : ◌≡◌ {A = Option (List (Option Exported))} (Some row.items) (Some (map one (all o))) =
    sym (get_front items h.0 file row.items front) ∙ ap (λ l. slice_get l file) h.1 ∙ whole in
    let same : row.items ≡ map one (all o) = cc in
    let seen_at : slice_get (map one (all o)) index ≡ Some (one (seen s)) =
    slice_get-map one (all o) index ∙ ap (option_map one) (slice_get-map seen o.symbols index ∙ ap (option_map seen) there) in
    let ends : ◌≡◌ {A = Option (Option Exported)} (Some found) (Some (one (seen s))) = sym at ∙ ap (λ l. slice_get l index) same ∙ seen_at in
    let is : found ≡ one (seen s) = cc in
    is ∙ ap (λ b. if b then None else option_map exported_of (first_named ds s.name)) free

pub outside_free : (ds : List Definer) (s : Seen) (x : Option Exported) → s.sure ≡ false → x ≡ option_map exported_of (first_named ds s.name) → x ≡ outside ds s
outside_free ds s x free is = is ∙ sym (ap (λ b. if b then None else option_map exported_of (first_named ds s.name)) free)
