-- Labels and usages of a handler's text, with principals and sessions in place of its words.
use Rattle.std.specs.Prelude.{ℕ, ◌+◌}
use Rattle.std.specs.List.{filter_map}
use Rattle.std.specs.Option.{option_map}
use Rattle.dy_label.specs.Labels as labels
use Rattle.dy_label.specs.Labels.{Label, Principal, Session, Version, one_or_nobody}
use Rattle.dy_label.specs.declared.usages.Kind.{Kind}
use Rattle.dy_label.specs.declared.usages.Usage.{Usage}
use Rattle.dy_syntax.specs.Names.{UseText}
use Rattle.dy_syntax.specs.Labels as text
use Rattle.dy_syntax.specs.Labels.{LabelText}
use Rattle.dy_eval.specs.Names.{Names, principal_for}

-- The label that a text denotes in an instance, where this is the newest version of the session before its Start.
-- `here` has no meaning in a handler, and so reads nothing.
abbrev pub label_for : Names → ℕ → LabelText → Label
label_for names newest (text.Public line) = labels.Public
label_for names newest (text.Nobody line) = labels.Nobody
label_for names newest (text.Session line) = labels.One (Session names.principal names.session)
label_for names newest (text.Next line) = labels.One (Version names.principal names.session (newest + 1))
label_for names newest (text.Prior line) = labels.One (Version names.principal names.session newest)
label_for names newest (text.Here line) = labels.Nobody
label_for names newest (text.One name) = one_or_nobody (option_map Principal (principal_for names name))
label_for names newest (text.Join line left right) =
    labels.Join (label_for names newest left) (label_for names newest right)
label_for names newest (text.Meet line left right) =
    labels.Meet (label_for names newest left) (label_for names newest right)

-- the usage that a text denotes, of this kind
abbrev pub usage_for : Names → Kind → UseText → Usage
usage_for names kind use_text =
    record { kind = kind; name = use_text.usage.word; owners = filter_map (principal_for names) use_text.args }
