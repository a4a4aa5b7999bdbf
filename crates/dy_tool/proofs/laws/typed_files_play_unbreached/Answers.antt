use Rattle.std.proofs.Common.{◌≡◌, subst, sym}
use Rattle.dy_sound.specs.Acceptance.{IsTyped}
use Rattle.dy_tool.specs.declared.commands.Command.TheVariants.{Play}
use Rattle.dy_tool.specs.Due.{IsDoneBy}
use Rattle.dy_tool.specs.Playing.{EndsUnbreached}
use Rattle.dy_tool.proofs.Endings.{ends_unbreached}
use Rattle.dy_tool.proofs.laws.typed_files_play_unbreached.Goals as goal

pub returns : goal.returns
returns c = λ bytes text file reads typed due.
    let played : IsDoneBy Play bytes text = due in
    let same : file ≡ played.0 = c.one_file.ensures bytes file played.0 reads played.3.interleaves.reads in
    let here : IsTyped played.0 = subst IsTyped same typed in
    let secure = c.typed_is_secure.ensures bytes played.0 played.1 here.1 played.3.interleaves in
    let none = c.secure_where_nothing_is_breached.ensures.breached played.0.decls played.1 played.2 played.4 secure in
    subst EndsUnbreached (sym played.5) (ends_unbreached played.1 played.2 none)
