-- The fields, events and partners of a declaration, as they are read in a handler.
use Rattle.std.specs.Prelude.{ℕ, List, ◌++◌, map}
use Rattle.dy_syntax.specs.declared.names.AtomText.{AtomText}
use Rattle.dy_syntax.specs.declared.expressions.Expr.{Expr}
use Rattle.dy_syntax.specs.declared.declarations.Field.{Field}
use Rattle.dy_syntax.specs.declared.declarations.Partner.{Partner}
use Rattle.dy_syntax.specs.declared.declarations.StateDecl.{StateDecl}
use Rattle.dy_syntax.specs.Meaning.{atom_of, expr_of, field_of, partner_of}
use Rattle.dy_typing.specs.Names.{Stands, stands_number}
use Rattle.dy_typing.specs.Instances.{label_in, type_in}
use Rattle.dy_typing.specs.Demands.{Demand, PartnerStands, StoreKeeps, StoreFits, Fitted, fitted_fields, Required, requirement_of, Owed, partners_owed, numbered_from}
use Rattle.dy_check.specs.declared.settings.Setting.{Setting}
use Rattle.dy_check.specs.declared.conditions.members.Reading.{Reading}
use Rattle.dy_check.specs.Meaning.{setting_of, stands_of, here_of}

-- what stands for the words of the declaration
abbrev pub stands_in : Reading → Stands
stands_in reading = stands_of reading.stands.now

-- a field of this number with the expression in its place
abbrev pub fitted_in : Setting → Reading → ℕ → Field → Expr → Fitted
fitted_in setting reading number field value = record {
  number = number;
  type = type_in (stands_number (setting_of setting) (stands_in reading)) (here_of reading.here) (field_of field).kind;
  value = expr_of value;
}

abbrev pub fields_in : Setting → Reading → List Field → List Expr → List Fitted
fields_in setting reading fields values =
    fitted_fields (stands_number (setting_of setting) (stands_in reading)) (here_of reading.here) (map field_of fields)
    (map expr_of values)

-- the events that a case requires
abbrev pub events_in : Reading → List AtomText → List Required
events_in reading atoms = numbered_from 1 (requirement_of (stands_in reading)) (map atom_of atoms)

-- a partner of this number
abbrev pub owed_in : Setting → Reading → ℕ → Partner → Owed
owed_in setting reading number partner = record {
  event = requirement_of (stands_in reading) number (partner_of partner).atom;
  unless = label_in (stands_number (setting_of setting) (stands_in reading)) (here_of reading.here)
      (partner_of partner).unless;
}

abbrev pub partners_in : Setting → Reading → List Partner → List Owed
partners_in setting reading partners =
    partners_owed (setting_of setting) (stands_in reading) (here_of reading.here) (map partner_of partners)

-- what a state with these fields demands
abbrev pub state_demands_in : Setting → Reading → List Expr → StateDecl → List Demand
state_demands_in setting reading values state =
    map PartnerStands (partners_in setting reading state.knows)
    ++ map StoreKeeps (fields_in setting reading state.fields values)
    ++ map StoreFits (fields_in setting reading state.fields values)
