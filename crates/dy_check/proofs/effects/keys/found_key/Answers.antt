use Rattle.std.proofs.Common.{[], ◌≡◌, ◌∙◌, ap, Option, ℕ, subst}
use Rattle.std.specs.Option.{option_to_list}
use Rattle.dy_label.specs.Labels.{Public}
use Rattle.dy_syntax.specs.Meaning.{nm_of}
use Rattle.dy_types.specs.Meaning.{known_of}
use Rattle.dy_types.specs.Tables.{KnownHasTables}
use Rattle.dy_typing.specs.Instances.{name_label}
use Rattle.dy_typing.specs.Names.{name_number}
use Rattle.dy_typing.specs.Effects.{found_claims}
use Rattle.dy_check.specs.Meaning.{setting_of}
use Rattle.dy_check.proofs.effects.keys.found_key.Goals as goal

pub returns : goal.returns
returns c =
    let setting = setting_of c.args.setting.now in
    let number = c.name_number-number.result in
    let number_is : number ≡ name_number setting (nm_of c.args.owner.now) = c.name_number-number.ensures.number ∙ ap (name_number setting) c.of.ensures in
    let claims = (rw (c.copy.ensures, c.in_ok-numbers.ensures) at c.in_ok-claims.ensures) (name_label number) c.name_table.ensures in
    subst (λ (n : Option ℕ). KnownHasTables (record { hi = Public; lo = Public; claims = found_claims setting.decls (name_label n) (record { usage = c.args.usage.now.word; args = option_to_list n }) }) (known_of c.known_from.result))
    number_is
    (c.known_from.ensures (record { hi = Public; lo = Public; claims = [] }) (found_claims setting.decls (name_label number) (record { usage = c.args.usage.now.word; args = option_to_list number })) c.public_table.ensures claims)
