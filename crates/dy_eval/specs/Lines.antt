-- The lines of a handler that runs.
use Rattle.std.specs.Prelude.{ℕ, List, ◌++◌, map, Option, Some, None, if◌then◌else◌}
use Rattle.std.specs.Option.{is_some, option_map_or, option_to_list}
use Rattle.dy_label.specs.declared.usages.Kind as kind
use Rattle.dy_label.specs.declared.usages.Kind.TheVariants as kinds
use Rattle.dy_syntax.specs.Statements.{OnPart, Act, New, Certify, Handler}
use Rattle.dy_syntax.specs.Files.{Decl}
use Rattle.dy_syntax.specs.LookUps.{usage_named}
use Rattle.dy_cases.specs.Derived.{kind_named}

-- the state that the handler goes on from; or a statement, and the kind of the usage that it names
pub data Line : Type 0 where
  GoesOn : (on : OnPart) → Line
  Does : (kind : kind.Kind) (act : Act) → Line

-- the usage whose kind a statement needs to know
abbrev pub usage_in : Act → Option (List ℕ)
usage_in (New name usage label) = Some usage.usage.word
usage_in (Certify key usage) = Some usage.word
usage_in _ = None

-- the kind of a usage, and of one that is not declared that of nonces
abbrev pub kind_of_usage : List Decl → List ℕ → kind.Kind
kind_of_usage decls usage = option_map_or (λ u. kind_named u.kind) (usage_named decls usage) kinds.Nonce

-- the same of the usage that a statement names, if it names one
abbrev pub kind_in : List Decl → Act → kind.Kind
kind_in decls act = option_map_or (kind_of_usage decls) (usage_in act) kinds.Nonce

-- the lines of a handler: the state that it goes on from, if it does, and its statements
abbrev pub lines_of : List Decl → Handler → List Line
lines_of decls handler =
    map GoesOn (option_to_list handler.on) ++ map (λ s. Does (kind_in decls s.act) s.act) handler.body

-- the number of the first line: statements count from 1, and the `on` part is statement 0
abbrev pub first_number : Handler → ℕ
first_number handler = if is_some handler.on then 0 else 1
