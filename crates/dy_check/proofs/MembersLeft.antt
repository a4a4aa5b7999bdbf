-- The demands on fields, events and partners that are left from one place on.
use Rattle.std.proofs.Common.{◌≡◌, ℕ, ◌+◌, ◌<◌, ◌≤◌, List, [], ◌∷◌, ◌++◌, map, zip, drop, length, get_or, refl, sym, ap, add-one}
use Rattle.std.specs.List.{flat_map}
use Rattle.std.proofs.lemmas.List.{drop_more, drop_all}
use Rattle.dy_syntax.specs.declared.names.AtomText.{AtomText}
use Rattle.dy_syntax.specs.declared.expressions.Expr.{Expr}
use Rattle.dy_syntax.specs.declared.declarations.Field.{Field}
use Rattle.dy_syntax.specs.declared.declarations.Partner.{Partner}
use Rattle.dy_syntax.specs.Meaning.{atom_of, expr_of, field_of, partner_of}
use Rattle.dy_syntax.specs.Declarations as d
use Rattle.dy_syntax.specs.Expressions as e
use Rattle.dy_typing.specs.Demands as demands
use Rattle.dy_typing.specs.Names.{stands_number}
use Rattle.dy_typing.specs.Instances.{label_in, type_in}
use Rattle.dy_typing.specs.Demands.{Demand, Sealing, Fitted, EventStands, PartnerStands, requirement_of, numbered_from}
use Rattle.dy_check.specs.declared.settings.Setting.{Setting}
use Rattle.dy_check.specs.declared.conditions.members.Reading.{Reading}
use Rattle.dy_check.specs.declared.conditions.members.OnField.{OnField}
use Rattle.dy_check.specs.declared.conditions.members.OnField.TheVariants as on_field
use Rattle.dy_check.specs.Meaning.{setting_of, stands_of, here_of}
use Rattle.dy_check.specs.MirrorMembers.{stands_in, fitted_in, owed_in}
use Rattle.dy_check.specs.MirrorUnmet.{demand_on_field}

-- the first of some that are numbered, and the others
numbered_step : {A B : Type 0} (make : ℕ → A → B) (demand : B → Demand) (n : ℕ) (x : A) (xs : List A)
    → map demand (numbered_from (n + 1) make (x ∷ xs)) ≡ demand (make (n + 1) x) ∷ map demand (numbered_from ((n + 1) + 1) make xs)
numbered_step make demand n x xs = ap (λ m. demand (make (n + 1) x) ∷ map demand (numbered_from m make xs)) (sym (add-one (n + 1)))

abbrev pub partners_left : Setting → Reading → ℕ → List Partner → List Demand
partners_left setting reading at partners =
    map PartnerStands
    (numbered_from (at + 1)
    (λ n partner. record {
      event = requirement_of (stands_in reading) n partner.atom;
      unless = label_in (stands_number (setting_of setting) (stands_in reading)) (here_of reading.here) partner.unless;
    })
    (map partner_of (drop at partners)))

pub partners_step : (setting : Setting) (reading : Reading) (at : ℕ) (partners : List Partner) (partner : Partner) → at < length partners → partner ≡ get_or partners at partner
    → partners_left setting reading at partners ≡ PartnerStands (owed_in setting reading (at + 1) partner) ∷ partners_left setting reading (at + 1) partners
partners_step setting reading at partners partner below is =
    rw (drop_more partners at partner below, ← is)
    (numbered_step
    (λ n p. record {
      event = requirement_of (stands_in reading) n p.atom;
      unless = label_in (stands_number (setting_of setting) (stands_in reading)) (here_of reading.here) p.unless;
    })
    PartnerStands at (partner_of partner) (map partner_of (drop (at + 1) partners)))

abbrev pub events_left : Reading → Sealing → ℕ → List AtomText → List Demand
events_left reading sealing at atoms = map (EventStands sealing) (numbered_from (at + 1) (requirement_of (stands_in reading)) (map atom_of (drop at atoms)))

pub events_step : (reading : Reading) (sealing : Sealing) (at : ℕ) (atoms : List AtomText) (atom : AtomText) → at < length atoms → atom ≡ get_or atoms at atom
    → events_left reading sealing at atoms ≡ EventStands sealing (requirement_of (stands_in reading) (at + 1) (atom_of atom)) ∷ events_left reading sealing (at + 1) atoms
events_step reading sealing at atoms atom below is =
    rw (drop_more atoms at atom below, ← is)
    (numbered_step (requirement_of (stands_in reading)) (EventStands sealing) at (atom_of atom) (map atom_of (drop (at + 1) atoms)))

abbrev pub fields_left : Setting → Reading → OnField → Sealing → ℕ → List Field → List Expr → List Demand
fields_left setting reading asked sealing at fields values =
    map (demand_on_field asked sealing)
    (numbered_from (at + 1)
    (λ n pair. record {
      number = n;
      type = type_in (stands_number (setting_of setting) (stands_in reading)) (here_of reading.here) pair.0.kind;
      value = pair.1;
    })
    (zip (map field_of (drop at fields)) (map expr_of (drop at values))))

pub fields_step : (setting : Setting) (reading : Reading) (asked : OnField) (sealing : Sealing) (at : ℕ) (fields : List Field) (values : List Expr) (field : Field) (value : Expr)
    → at < length fields → at < length values → field ≡ get_or fields at field → value ≡ get_or values at value
    → fields_left setting reading asked sealing at fields values
    ≡ demand_on_field asked sealing (fitted_in setting reading (at + 1) field value) ∷ fields_left setting reading asked sealing (at + 1) fields values
fields_step setting reading asked sealing at fields values field value below within field_is value_is =
    rw (drop_more fields at field below, ← field_is, drop_more values at value within, ← value_is)
    (numbered_step
    (λ (n : ℕ) (pair : d.Field × e.Expr). record {
      number = n;
      type = type_in (stands_number (setting_of setting) (stands_in reading)) (here_of reading.here) pair.0.kind;
      value = pair.1;
    })
    (demand_on_field asked sealing) at (field_of field, expr_of value) (zip (map field_of (drop (at + 1) fields)) (map expr_of (drop (at + 1) values))))

zip-none : {A B : Type 0} (xs : List A) (ys : List B) → ys ≡ [] → zip xs ys ≡ []
zip-none [] ys is = refl
zip-none (x ∷ xs) ys is = rw is refl

-- the number of a field of which something is asked
pub number_on_field : (asked : OnField) (sealing : Sealing) (field : Fitted) → demands.field_of (demand_on_field asked sealing field) ≡ field.number
number_on_field (on_field.Sealed table) sealing field = refl
number_on_field on_field.Kept sealing field = refl
number_on_field on_field.Stored sealing field = refl

-- No demand is left past the last.
pub partners_none : (setting : Setting) (reading : Reading) (at : ℕ) (partners : List Partner) → length partners ≤ at → partners_left setting reading at partners ≡ []
partners_none setting reading at partners h = rw (drop_all at partners h)

pub events_none : (reading : Reading) (sealing : Sealing) (at : ℕ) (atoms : List AtomText) → length atoms ≤ at → events_left reading sealing at atoms ≡ []
events_none reading sealing at atoms h = rw (drop_all at atoms h)

pub fields_none : (setting : Setting) (reading : Reading) (asked : OnField) (sealing : Sealing) (at : ℕ) (fields : List Field) (values : List Expr)
    → length fields ≤ at → fields_left setting reading asked sealing at fields values ≡ []
fields_none setting reading asked sealing at fields values h = rw (drop_all at fields h)

pub values_none : (setting : Setting) (reading : Reading) (asked : OnField) (sealing : Sealing) (at : ℕ) (fields : List Field) (values : List Expr)
    → length values ≤ at → fields_left setting reading asked sealing at fields values ≡ []
values_none setting reading asked sealing at fields values h =
    ap (λ (pairs : List (d.Field × e.Expr)).
    map (demand_on_field asked sealing)
    (numbered_from (at + 1)
    (λ n pair. record {
      number = n;
      type = type_in (stands_number (setting_of setting) (stands_in reading)) (here_of reading.here) pair.0.kind;
      value = pair.1;
    })
    pairs))
    (zip-none (map field_of (drop at fields)) (map expr_of (drop at values)) (ap (map expr_of) (drop_all at values h)))

-- what is asked of the next operation, and of the others
pub operations_step : {A B C : Type 0} (demands_on : B → List C) (view : A → B) (xs : List A) (at : ℕ) (x : A) → at < length xs → x ≡ get_or xs at x
    → flat_map demands_on (map view (drop at xs)) ≡ demands_on (view x) ++ flat_map demands_on (map view (drop (at + 1) xs))
operations_step demands_on view xs at x below is = rw (drop_more xs at x below, ← is)

pub operations_none : {A B C : Type 0} (demands_on : B → List C) (view : A → B) (xs : List A) (at : ℕ) → length xs ≤ at
    → flat_map demands_on (map view (drop at xs)) ≡ []
operations_none demands_on view xs at h = rw (drop_all at xs h)
