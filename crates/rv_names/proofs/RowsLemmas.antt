-- The table of what symbols mean: one element more, and what it answers.

use Rattle.std.proofs.Common.{◌≡◌, false, Option, Some, None, option_map, List, map, slice_get, sym, ap, ◌∙◌}
use Rattle.std.specs.Global.{Vec}
use Rattle.std.specs.Prelude.{ℕ, option_and_then, if◌then◌else◌}
use Rattle.std.proofs.lemmas.Option.{slice_get-map}
use Rattle.rv_object_laws.specs.Object.{Symbol, Object}
use Rattle.rv_link_laws.specs.Names.{is_sure}
use Rattle.rv_names.specs.declared.definitions.Exported.{Exported}
use Rattle.rv_names.specs.declared.meanings.Meanings.{Meanings}
use Rattle.rv_names.specs.Chosen.{Seen, seen, seen_of, definitions, definer}
use Rattle.rv_names.specs.Names.{exported_of, outside, meant_at, AreMeanings}

row_at : (found : Option (Vec (Option Exported))) (index : ℕ) (ms : List (Option Exported)) (m : Option Exported)
    → option_map (λ (row : Vec (Option Exported)). row.items) found ≡ Some ms → slice_get ms index ≡ Some m
    → option_and_then (λ (row : Vec (Option Exported)). option_and_then (λ x. x) (slice_get row.items index)) found ≡ m
row_at None index ms m e at = absurd (cc)
row_at (Some row) index ms m e at =
    let same : row.items ≡ ms = cc in
    ap (λ l. option_and_then (λ x. x) (slice_get l index)) same ∙ ap (option_and_then (λ x. x)) at

pub answered : (os : List Object) (m : Meanings) (file index : ℕ) (o : Object) (s : Symbol) → AreMeanings os m → slice_get os file ≡ Some o → slice_get o.symbols index ≡ Some s
    → is_sure s ≡ false → meant_at m file index ≡ option_map exported_of (definer os s.name)
answered os m file index o s h here there free =
    let one : Seen → Option Exported = outside (definitions os) in
    let all : Object → List Seen = λ p. map seen p.symbols in
    row_at (slice_get m.files.items file) index (map one (all o)) (one (seen s))
    (sym (slice_get-map (λ (row : Vec (Option Exported)). row.items) m.files.items file)
    ∙ ap (λ l. slice_get l file) h
    ∙ slice_get-map (map one) (seen_of os) file
    ∙ ap (option_map (map one)) (slice_get-map all os file ∙ ap (option_map all) here))
    (slice_get-map one (all o) index ∙ ap (option_map one) (slice_get-map seen o.symbols index ∙ ap (option_map seen) there))
    ∙ ap (λ b. if b then None else option_map exported_of (definer os s.name)) free
