use Rattle.std.proofs.Common.{rules, ◌≡◌, true, false}
use Rattle.rv_draft.specs.Measure.{is_parcel, is_word, is_jal, is_longer}
use Rattle.rv_draft.proofs.ParcelLengthsLemmas.{parcels_told}
use Rattle.rv_draft.proofs.WordsLemmas.{jals_told, others_told}
use Rattle.rv_draft.proofs.measure.operation_length.Goals as goal

pub returns-then-is_jal : goal.returns-then-is_jal
returns-then-is_jal c =
    let jal : is_jal c.args.operation.now ≡ true = search rules in
    jals_told c.args.operation.now c.args.compressed jal

pub returns-then-is_parcel : goal.returns-then-is_parcel
returns-then-is_parcel c =
    let parcel : is_parcel c.args.operation.now ≡ true = search rules in
    parcels_told c.args.operation.now c.args.compressed parcel

pub returns : goal.returns
returns c =
    let word : is_word c.args.operation.now ≡ false = search rules in
    let jal : is_jal c.args.operation.now ≡ false = search rules in
    let longer : is_longer c.args.operation.now ≡ false = search rules in
    let parcel : is_parcel c.args.operation.now ≡ false = search rules in
    others_told c.args.operation.now c.args.compressed word jal longer parcel
