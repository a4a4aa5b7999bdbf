-- Notes of a trace that gets one entry more.
use Rattle.std.proofs.Common.{◌≡◌, ℕ, ◌+◌, ◌^◌, ◌<◌, List, [], ◌∷◌, ◌++◌, length, take, sum_by, Option, Some, None, Contains, refl, ap, sym, ◌∙◌, subst, arith, length-append, cond}
use Rattle.std.specs.Str.{bytes_eq}
use Rattle.std.proofs.lemmas.List.{take_at}
use Rattle.std.proofs.lemmas.List.Sums.{sum_by_push}
use Rattle.std.proofs.lemmas.List.Elements.{filter_map-append}
use Rattle.dy_term.specs.Terms.{Term}
use Rattle.dy_label.specs.Labels.{Label}
use Rattle.dy_label.specs.LabelsMeaning.{places_of}
use Rattle.dy_syntax.specs.Declarations.{EventDecl}
use Rattle.dy_syntax.specs.Files as files
use Rattle.dy_syntax.specs.Files.{Decl}
use Rattle.dy_syntax.specs.LookUps.{event_named}
use Rattle.dy_entry.specs.Entries.{Entry, Event}
use Rattle.dy_entry.specs.declared.entries.Entry as declared
use Rattle.dy_entry.specs.declared.entries.Entry.TheVariants as code
use Rattle.dy_entry.specs.Meaning.{entry_of}
use Rattle.dy_term.specs.declared.words.Word.{Word}
use Rattle.dy_flat.specs.declared.flat_terms.FlatTerm.{FlatTerm}
use Rattle.sqlite_items.specs.declared.items.Items.{Items}
use Rattle.dy_label.specs.declared.readers.Corruption.{Corruption}
use Rattle.dy_entry.specs.LookUps.{corruption_of, corruptions}
use Rattle.dy_entry.proofs.Traces.{slice_get-end}
use Rattle.dy_know.specs.declared.notes.Notes.{Notes}
use Rattle.dy_know.specs.MirrorEvents.{events_in, event_called, happened_in, all_happened, ListsLacks}
use Rattle.dy_know.specs.MirrorNotes.{AreSame, AddsEvent}
use Rattle.dy_know.specs.MirrorAuditors.{fresh_label, new_secret, breach_count, KeepsSecrets, Keeps}
use Rattle.dy_know.proofs.KeptSecrets.{keeps_one_more}
use Rattle.dy_know.proofs.Happenings.{lists_still, lists_past}

-- the first event of a name among those that are declared
pub called_is_named : (decls : List Decl) (name : List ℕ) → event_called (events_in decls) name ≡ event_named decls name
called_is_named [] name = refl
called_is_named (files.Event event ∷ decls) name = ap (λ o. cond (bytes_eq event.name.word name) (Some event) o) (called_is_named decls name)
called_is_named (files.Usage usage ∷ decls) name = called_is_named decls name
called_is_named (files.Case case ∷ decls) name = called_is_named decls name
called_is_named (files.State state ∷ decls) name = called_is_named decls name
called_is_named (files.Handler handler ∷ decls) name = called_is_named decls name

-- a nonce that is new is no breach
new_count : (label : Option Label) → breach_count (new_secret label) ≡ 0
new_count None = refl
new_count (Some label) = refl

-- the notes are the same but for what is kept of nonces
pub keeps_with : (known missing known' missing' : List ℕ) (decls : List Decl) (T : List Entry) (old new : Notes) → KeepsSecrets known' missing' T new.secrets.items
    → new.corruptions.items ≡ old.corruptions.items → new.happened.items ≡ old.happened.items → new.lacks.items ≡ old.lacks.items
    → new.breaches ≡ sum_by breach_count new.secrets.items → Keeps old known missing decls T → Keeps new known' missing' decls T
keeps_with known missing known' missing' decls T old new secrets corruptions_same happened_same lacks_same count keeps = record {
  secrets = secrets;
  corruptions_are = ap places_of corruptions_same ∙ keeps.corruptions_are;
  happened_are = happened_same ∙ keeps.happened_are;
  lacks = subst (ListsLacks decls T (length T) 0) (sym lacks_same) keeps.lacks;
  few = keeps.few;
  breaches_are = count;
}

pub keeps_same : (known missing : List ℕ) (decls : List Decl) (T : List Entry) (old new : Notes) → AreSame old new → Keeps old known missing decls T → Keeps new known missing decls T
keeps_same known missing decls T old new same keeps = keeps_with known missing known missing decls T old new
    (subst (KeepsSecrets known missing T) (sym same.secrets) keeps.secrets) same.corruptions same.happened same.lacks
    (same.breaches ∙ keeps.breaches_are ∙ ap (sum_by breach_count) (sym same.secrets)) keeps

-- one entry more, of which the lacks are listed
pub grows : (known : List ℕ) (decls : List Decl) (T : List Entry) (e : Entry) (old new : Notes) → (Contains known (length T) → ⊥) → length T + 1 < 2 ^ 32
    → new.secrets.items ≡ old.secrets.items ++ new_secret (fresh_label e) ∷ [] → places_of new.corruptions.items ≡ places_of old.corruptions.items ++ corruptions (e ∷ [])
    → new.happened.items ≡ old.happened.items ++ all_happened (e ∷ []) → new.breaches ≡ old.breaches → ListsLacks decls (T ++ e ∷ []) (length T + 1) 0 new.lacks.items
    → Keeps old known [] decls T → Keeps new known [] decls (T ++ e ∷ [])
grows known decls T e old new fresh few secrets places happened count lists keeps =
    let longer : length (T ++ e ∷ []) ≡ length T + 1 = length-append T (e ∷ []) in
    record {
      secrets = keeps_one_more known T e old.secrets.items new.secrets.items fresh secrets keeps.secrets;
      corruptions_are = places ∙ ap (λ cs. cs ++ corruptions (e ∷ [])) keeps.corruptions_are ∙ sym (filter_map-append corruption_of T (e ∷ []));
      happened_are = happened ∙ ap (λ hs. hs ++ all_happened (e ∷ [])) keeps.happened_are ∙ sym (filter_map-append happened_in T (e ∷ []));
      lacks = subst (λ n. ListsLacks decls (T ++ e ∷ []) n 0 new.lacks.items) (sym longer) lists;
      few = subst (λ n. n < 2 ^ 32) (sym longer) few;
      breaches_are = count ∙ keeps.breaches_are
          ∙ sym (ap (sum_by breach_count) secrets ∙ sum_by_push breach_count old.secrets.items (new_secret (fresh_label e)) ∙ omega (arith, new_count (fresh_label e)));
    }

-- an entry that is no event lacks nothing
pub lists_other : (decls : List Decl) (T : List Entry) (e : Entry) (old new : Notes) → happened_in e ≡ None → new.lacks.items ≡ old.lacks.items
    → ListsLacks decls T (length T) 0 old.lacks.items → ListsLacks decls (T ++ e ∷ []) (length T + 1) 0 new.lacks.items
lists_other decls T e old new none same lists =
    subst (ListsLacks decls (T ++ e ∷ []) (length T + 1) 0) (sym same)
    (lists_past decls (T ++ e ∷ []) (length T) old.lacks.items
    (λ partner breach.
    let is : e ≡ Event breach.instance breach.principal breach.name breach.args = cc (slice_get-end T e, breach.stands) in
    let some : happened_in e ≡ Some (record { name = breach.name; args = breach.args }) = ap happened_in is in
    cc (none, some))
    (lists_still decls T (e ∷ []) old.lacks.items lists))

-- an event lacks what was added for it
pub lists_event : (events : List EventDecl) (decls : List Decl) (T : List Entry) (instance : ℕ) (principal name : List ℕ) (args : List Term) (old new : Notes) → events ≡ events_in decls
    → old.happened.items ≡ all_happened T → places_of old.corruptions.items ≡ corruptions T → AddsEvent events (length T) name args old new
    → ListsLacks decls T (length T) 0 old.lacks.items → ListsLacks decls (T ++ Event instance principal name args ∷ []) (length T + 1) 0 new.lacks.items
lists_event events decls T instance principal name args old new are happened places adds lists = by_name (event_called events name) refl
  where
    named : event_called events name ≡ event_named decls name
    named = ap (λ es. event_called es name) are ∙ called_is_named decls name

    before : take (length T) (T ++ Event instance principal name args ∷ []) ≡ T
    before = take_at T (Event instance principal name args ∷ []) (length T) refl

    still : ListsLacks decls (T ++ Event instance principal name args ∷ []) (length T) 0 old.lacks.items
    still = lists_still decls T (Event instance principal name args ∷ []) old.lacks.items lists

    by_name : (o : Option EventDecl) → event_called events name ≡ o → ListsLacks decls (T ++ Event instance principal name args ∷ []) (length T + 1) 0 new.lacks.items
    by_name None is =
        subst (ListsLacks decls (T ++ Event instance principal name args ∷ []) (length T + 1) 0) (sym (adds.unnamed is))
        (lists_past decls (T ++ Event instance principal name args ∷ []) (length T) old.lacks.items
        (λ partner breach.
        let at = slice_get-end T (Event instance principal name args) in
        let same : name ≡ breach.name = cc (at, breach.stands) in
        let some : event_named decls name ≡ Some breach.declaration = subst (λ n. event_named decls n ≡ Some breach.declaration) (sym same) breach.declared in
        cc (is, named, some))
        still)
    by_name (Some event) is = adds.lacks event is decls (T ++ Event instance principal name args ∷ []) (record {
      instance = instance;
      principal = principal;
      name = name;
      stands = slice_get-end T (Event instance principal name args);
      declared = sym named ∙ is;
      happened_before = happened ∙ ap all_happened (sym before);
      corrupted_before = places ∙ ap corruptions (sym before);
    }) still

-- an entry that is neither an event nor a corruption has no part in what has happened or what is corrupted
pub other_entry : (e : declared.Entry)
    → ((instance : ℕ) (principal name : Word) (args : Items FlatTerm) → e ≡ code.Event instance principal name args → ⊥)
    → ((step : ℕ) (corruption : Corruption) → e ≡ code.Corrupt step corruption → ⊥)
    → (happened_in (entry_of e) ≡ None) × (all_happened (entry_of e ∷ []) ≡ []) × (corruptions (entry_of e ∷ []) ≡ [])
other_entry (code.Event instance principal name args) event corrupt = absurd (event instance principal name args refl)
other_entry (code.Corrupt step corruption) event corrupt = absurd (corrupt step corruption refl)
other_entry (code.Setup input) event corrupt = (refl, refl, refl)
other_entry (code.Start step handler principal session args message) event corrupt = (refl, refl, refl)
other_entry (code.Fresh instance label usage) event corrupt = (refl, refl, refl)
other_entry (code.Message instance value) event corrupt = (refl, refl, refl)
other_entry (code.State instance principal session version tag fields) event corrupt = (refl, refl, refl)
other_entry (code.Cert instance principal usage key) event corrupt = (refl, refl, refl)
other_entry (code.End instance outcome) event corrupt = (refl, refl, refl)
other_entry (code.Forge step) event corrupt = (refl, refl, refl)
other_entry (code.Inject step value) event corrupt = (refl, refl, refl)
other_entry (code.Skip step) event corrupt = (refl, refl, refl)
