-- `write_instance` stores the front, the legs and the entries one behind the other; every part keeps the target's length.
use Rattle.std.proofs.Common.{◌≡◌, ◌∙◌, length, ap, arith}
use Rattle.std.proofs.lemmas.List.{take_rest, length-drop}
use Rattle.making.proofs.Making.{measure, parts_stored}
use Rattle.making.proofs.write_instance.Goals as goal

pub write_front-requires : goal.write_front-requires
write_front-requires c =
    let a = c.args in
    let p = c.requires in
    let m = measure a.sheet.now (length a.sizes.now) a.entries p.sheet_value.0 p.sheet_value.1 (ap length p.sizes_value.0) p.sizes_value.1 in
    (m.few, omega (arith, m.long, ap length p.sizes_value.0))

pub write_legs-behind-requires : goal.write_legs-behind-requires
write_legs-behind-requires c =
    let a = c.args in
    let p = c.requires in
    let m = measure a.sheet.now (length a.sizes.now) a.entries p.sheet_value.0 p.sheet_value.1 (ap length p.sizes_value.0) p.sizes_value.1 in
    let k : length c.write_front.new.target ≡ length a.target.now = c.write_front.auto.target in
    record { sheet_value = p.sheet_value.0; n_value = (ap length p.sizes_value.0, omega (arith, m.long)) }

pub copy_words-requires : goal.copy_words-requires
copy_words-requires c =
    let a = c.args in
    let p = c.requires in
    let m = measure a.sheet.now (length a.sizes.now) a.entries p.sheet_value.0 p.sheet_value.1 (ap length p.sizes_value.0) p.sizes_value.1 in
    let k : length c.write_legs-behind.new.target ≡ length a.target.now =
    c.write_legs-behind.auto.target ∙ c.write_front.auto.target in
    omega (arith, m.long, m.rest, length-drop a.entries a.sheet.now, ap length (take_rest a.sheet.now a.entries))

pub returns : goal.returns
returns c =
    let a = c.args in
    let p = c.requires in
    let legs = c.write_legs-behind in
    parts_stored a.sheet.now a.sizes.now a.target.now _ _ _ (length a.sizes.now) _ a.entries p.sheet_value.1 p.sizes_value.0 (ap length p.sizes_value.0) p.sizes_value.1
    c.write_front.ensures legs.ensures.value legs.ensures.target_after (rw (take_rest a.sheet.now a.entries) at c.copy_words.ensures)
