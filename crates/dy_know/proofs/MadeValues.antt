-- What an instance puts has only nonces that are made, where what it is given has.
use Rattle.std.proofs.Common.{◌≡◌, ℕ, zero, suc, ◌+◌, Bool, true, false, cond, ◌&&◌, List, [], ◌∷◌, ◌++◌, map, length, Option, Some, None, unwrap_or, nat_le, if◌then◌else◌, refl}
use Rattle.std.specs.Option.{option_map, option_and_then, option_to_list}
use Rattle.std.specs.List.{slice_get, find}
use Rattle.std.specs.Str.{bytes_eq}
use Rattle.dy_term.specs.Terms.{Term, Lit, Name, Pair, Pk, Vk, Penc, Aead, Sign, size}
use Rattle.dy_term.specs.declared.limits.TheConstants.{MAX_NODES}
use Rattle.dy_term.specs.Tuples.{right_pairs, tagged_tuple}
use Rattle.dy_term.specs.Sameness.{is_same}
use Rattle.dy_flat.specs.Openings.{penc_message, aead_message_with}
use Rattle.dy_label.specs.declared.usages.Kind as kind
use Rattle.dy_label.specs.declared.usages.Kind.TheVariants as kinds
use Rattle.dy_syntax.specs.Names.{Id, Nm, Named, Me, Quote}
use Rattle.dy_syntax.specs.Expressions as e
use Rattle.dy_syntax.specs.Expressions.{Expr, Exprs}
use Rattle.dy_syntax.specs.Statements as s
use Rattle.dy_syntax.specs.Statements.{Act, Pattern}
use Rattle.dy_entry.specs.Entries as entries
use Rattle.dy_entry.specs.Entries.{Entry}
use Rattle.dy_entry.specs.LookUps.{newest, state_at, find_cert}
use Rattle.dy_entry.specs.ValueLabels.{IsMade, HasMadeNonces}
use Rattle.dy_eval.specs.declared.written.Written.{Written}
use Rattle.dy_eval.specs.declared.items.Item.{Item}
use Rattle.dy_eval.specs.declared.items.Item.TheVariants as items
use Rattle.dy_eval.specs.Doings.{Effect}
use Rattle.dy_eval.specs.Doings as effects
use Rattle.dy_eval.specs.Lines.{Line, GoesOn, Does}
use Rattle.dy_eval.specs.Names.{Names, write, bytes_at, bytes_for, principal_for}
use Rattle.dy_eval.specs.Values.{value, values, if_small, are_small}
use Rattle.dy_eval.specs.Patterns.{fits, variable_in, written_by_one, written_by, terms_in, fields_in, match_if, match_tuple}
use Rattle.dy_eval.specs.Past.{Stored, stored_by, key_certified, state_in, cert_in, fields_tagged, key_of, matches_first}
use Rattle.dy_eval.specs.Effects.{puts, writes, public_key, verified_message, effect, effect_of}
use Rattle.dy_eval.specs.Runs.{Left, Next, Puts, Ends, next_by, runs, nonce_due, tell, step}

-- only a nonce is due in place of a word
abbrev pub BindsNonce : Item → Option (List ℕ) → Type 0
BindsNonce (items.Fresh label usage) binds = Unit {0}
BindsNonce item None = Unit {0}
BindsNonce item (Some word) = ⊥

abbrev pub IsFreshItem : Item → Type 0
IsFreshItem (items.Fresh label usage) = Unit {0}
IsFreshItem item = ⊥

module _ (U : List Entry) where
  -- each of the values has made nonces
  abbrev pub AreAllMade : List Term → Type 0
  AreAllMade [] = Unit {0}
  AreAllMade (term ∷ terms) = HasMadeNonces U term × AreAllMade terms

  abbrev pub IsMadeIfAny : Option Term → Type 0
  IsMadeIfAny None = Unit {0}
  IsMadeIfAny (Some term) = HasMadeNonces U term

  abbrev pub AreMadeIfAny : Option (List Term) → Type 0
  AreMadeIfAny None = Unit {0}
  AreMadeIfAny (Some terms) = AreAllMade terms

  -- each of the bytes that are written has made nonces
  abbrev pub WrittenMade : List Written → Type 0
  WrittenMade [] = Unit {0}
  WrittenMade (w ∷ ws) = HasMadeNonces U w.bytes × WrittenMade ws

  abbrev pub EntryMade : Entry → Type 0
  EntryMade (entries.Message instance value) = HasMadeNonces U value
  EntryMade (entries.State instance principal session version tag fields) = AreAllMade fields
  EntryMade (entries.Event instance principal name args) = AreAllMade args
  EntryMade (entries.Cert instance principal usage key) = HasMadeNonces U key
  EntryMade (entries.Inject step value) = HasMadeNonces U value
  EntryMade e = Unit {0}

  abbrev pub ItemMade : Item → Type 0
  ItemMade (items.Fresh label usage) = Unit {0}
  ItemMade (items.Message value) = HasMadeNonces U value
  ItemMade (items.State version tag fields) = AreAllMade fields
  ItemMade (items.Event name args) = AreAllMade args
  ItemMade (items.Cert usage key) = HasMadeNonces U key

  abbrev pub EffectMade : Effect → Type 0
  EffectMade (effects.Puts item binds) = ItemMade item × BindsNonce item binds
  EffectMade (effects.Writes written) = WrittenMade written
  EffectMade effects.Fails = Unit {0}

  abbrev pub NextMade : Next → Type 0
  NextMade (Puts item binds left) = ItemMade item × BindsNonce item binds × WrittenMade left.names.written
  NextMade (Ends outcome) = Unit {0}

  pub written_more : (ws vs : List Written) → WrittenMade ws → WrittenMade vs → WrittenMade (ws ++ vs)
  written_more [] vs made more = more
  written_more (w ∷ ws) vs made more = (made.0, written_more ws vs made.1 more)

  pick_made : (b : Bool) (w : Written) (rest : Option Written) (p : List ℕ) → HasMadeNonces U w.bytes → HasMadeNonces U (unwrap_or (option_map (λ v. v.bytes) rest) (Name p))
      → HasMadeNonces U (unwrap_or (option_map (λ v. v.bytes) (cond b (Some w) rest)) (Name p))
  pick_made true w rest p first later = first
  pick_made false w rest p first later = later

  found_made : (test : Written → Bool) (p : List ℕ) (ws : List Written) → WrittenMade ws → HasMadeNonces U (unwrap_or (option_map (λ v. v.bytes) (find test ws)) (Name p))
  found_made test p [] made = tt
  found_made test p (w ∷ ws) made = pick_made (test w) w (find test ws) p made.0 (found_made test p ws made.1)

  pairs_made : (first : Term) (more : List Term) → HasMadeNonces U first → AreAllMade more → HasMadeNonces U (right_pairs first more)
  pairs_made first [] made later = made
  pairs_made first (next ∷ more) made later = (made, pairs_made next more later.0 later.1)

  tuple_made : (tag : List ℕ) (fields : List Term) → AreAllMade fields → HasMadeNonces U (tagged_tuple tag fields)
  tuple_made tag fields made = pairs_made (Lit tag) fields tt made

  made_if : (b : Bool) (term : Term) → HasMadeNonces U term → IsMadeIfAny (if b then Some term else None)
  made_if true term made = made
  made_if false term made = tt

  -- ---- patterns

  terms_made : (more : ℕ) (term : Term) → HasMadeNonces U term → AreMadeIfAny (terms_in more term)
  terms_made zero term made = (made, tt)
  terms_made (suc more) (Pair first rest) made = later (terms_in more rest) (terms_made more rest made.1) where
    later : (o : Option (List Term)) → AreMadeIfAny o → AreMadeIfAny (option_map (λ terms. first ∷ terms) o)
    later None all = tt
    later (Some terms) all = (made.0, all)
  terms_made (suc more) term made = tt

  fields_if : (b : Bool) (o : Option (List Term)) → AreMadeIfAny o → AreMadeIfAny (if b then o else None)
  fields_if true o made = made
  fields_if false o made = tt

  fields_made : (tag : List ℕ) (number : ℕ) (term : Term) → HasMadeNonces U term → AreMadeIfAny (fields_in tag number term)
  fields_made tag zero term made = fields_if (is_same term (Lit tag)) (Some []) tt
  fields_made tag (suc more) (Pair first rest) made = fields_if (is_same first (Lit tag)) (terms_in more rest) (terms_made more rest made.1)
  fields_made tag (suc more) term made = tt

  one_written : (id : Option Id) (field : Term) → HasMadeNonces U field → WrittenMade (map (λ (i : Id). record { word = i.word; bytes = field }) (option_to_list id))
  one_written None field made = tt
  one_written (Some id) field made = (made, tt)

  written_made : (patterns : List Pattern) (fields : List Term) → AreAllMade fields → WrittenMade (written_by patterns fields)
  written_made [] fields made = tt
  written_made (pattern ∷ patterns) [] made = tt
  written_made (pattern ∷ patterns) (field ∷ fields) made =
      written_more (written_by_one pattern field) (written_by patterns fields) (one_written (variable_in pattern) field made.0) (written_made patterns fields made.1)

  effect_if : (b : Bool) (written : List Written) → WrittenMade written → EffectMade (if b then effects.Writes written else effects.Fails)
  effect_if true written made = made
  effect_if false written made = tt

  matched_made : (names : Names) (patterns : List Pattern) (fields : Option (List Term)) → AreMadeIfAny fields → EffectMade (match_if names patterns fields)
  matched_made names patterns None made = tt
  matched_made names patterns (Some fields) made = effect_if (fits names patterns fields) (written_by patterns fields) (written_made patterns fields made)

  tuple_matched : (names : Names) (tag : Quote) (patterns : List Pattern) (message : Option Term) → IsMadeIfAny message → EffectMade (match_tuple names tag patterns message)
  tuple_matched names tag patterns None made = tt
  tuple_matched names tag patterns (Some message) made = matched_made names patterns (fields_in tag.text (length patterns) message) (fields_made tag.text (length patterns) message made)

  writes_made : (word : List ℕ) (term : Option Term) → IsMadeIfAny term → EffectMade (writes word term)
  writes_made word None made = tt
  writes_made word (Some term) made = (made, tt)

  -- ---- openings

  penc_made : (sealed key : Term) → HasMadeNonces U sealed → IsMadeIfAny (penc_message sealed key)
  penc_made (Penc (Pk own) message) key made = made_if (is_same own key) message made.1
  penc_made sealed key made = tt

  aead_made : (sealed key : Term) (wanted : Option Term) → HasMadeNonces U sealed → IsMadeIfAny (option_and_then (aead_message_with sealed key) wanted)
  aead_made sealed key None made = tt
  aead_made (Aead own message associated) key (Some wanted) made = made_if (is_same own key && is_same associated wanted) message made.1
  aead_made sealed key (Some wanted) made = tt

  verified_made : (signed key : Term) → HasMadeNonces U signed → IsMadeIfAny (verified_message signed key)
  verified_made (Sign own message) (Vk key) made = made_if (is_same own key) message made.1
  verified_made signed key made = tt

  public_made : (k : kind.Kind) (key : Term) → HasMadeNonces U key → IsMadeIfAny (option_and_then if_small (public_key k key))
  public_made kinds.Pke key made = made_if (nat_le (size (Pk key)) MAX_NODES) (Pk key) made
  public_made kinds.Sig key made = made_if (nat_le (size (Vk key)) MAX_NODES) (Vk key) made
  public_made k key made = tt

  module _ (names : Names) (made : WrittenMade names.written) where
    at_made : (word : List ℕ) → HasMadeNonces U (bytes_at names word)
    at_made word = found_made (λ w. bytes_eq w.word word) names.principal names.written made

    for_made : (name : Nm) → HasMadeNonces U (bytes_for names name)
    for_made (Named id) = at_made id.word
    for_made (Me line) = tt

    all_for_made : (given : List Nm) → AreAllMade (map (bytes_for names) given)
    all_for_made [] = tt
    all_for_made (name ∷ given) = (for_made name, all_for_made given)

    mutual
      value_made : (expr : Expr) → HasMadeNonces U (value names expr)
      value_made (e.Nm name) = for_made name
      value_made (e.Lit quote) = tt
      value_made (e.Tuple tag args) = tuple_made tag.text (values names args) (values_made args)
      value_made (e.Pair line first second) = (value_made first, value_made second)
      value_made (e.Pk line key) = for_made key
      value_made (e.Vk line key) = for_made key
      value_made (e.Penc line key usage tag args) = (for_made key, tuple_made tag.text (values names args) (values_made args))
      value_made (e.Aead line key usage tag args ad) = (for_made key, tuple_made tag.text (values names args) (values_made args), value_made ad)
      value_made (e.Sign line key usage tag args) = (for_made key, tuple_made tag.text (values names args) (values_made args))
      value_made (e.Mac line key usage tag args) = (for_made key, tuple_made tag.text (values names args) (values_made args))
      value_made (e.Kdf line key context input) = (for_made key, value_made input)
      value_made (e.Hash line message) = value_made message

      values_made : (exprs : Exprs) → AreAllMade (values names exprs)
      values_made e.Nil = tt
      values_made (e.Cons first rest) = (value_made first, values_made rest)

    all_values_made : (exprs : List Expr) → AreAllMade (map (value names) exprs)
    all_values_made [] = tt
    all_values_made (expr ∷ exprs) = (value_made expr, all_values_made exprs)

  -- ---- what stands in the trace before the Start

  module _ (X : List Entry) (stored : (i : ℕ) (entry : Entry) → slice_get X i ≡ Some entry → EntryMade entry) where
    fields_of_entry : (entry : Entry) → EntryMade entry → AreMadeIfAny (option_map (λ (x : Stored). x.fields) (stored_by entry))
    fields_of_entry (entries.State instance principal session version tag fields) made = made
    fields_of_entry entry made = tt

    key_of_entry : (entry : Entry) → EntryMade entry → IsMadeIfAny (key_certified entry)
    key_of_entry (entries.Cert instance principal usage key) made = made
    key_of_entry entry made = tt

    tagged_made : (tag : List ℕ) (entry : Option Entry) → ((e' : Entry) → entry ≡ Some e' → EntryMade e') → AreMadeIfAny (option_and_then (fields_tagged tag) (option_and_then stored_by entry))
    tagged_made tag None all = tt
    tagged_made tag (Some (entries.State instance principal session version t fields)) all =
        fields_if (bytes_eq t tag) (Some fields) (all (entries.State instance principal session version t fields) refl)
    tagged_made tag (Some entry) all = tt

    at_index : (tag : List ℕ) (index : Option ℕ) → AreMadeIfAny (option_and_then (fields_tagged tag) (option_and_then (state_in X) index))
    at_index tag None = tt
    at_index tag (Some index) = tagged_made tag (slice_get X index) (λ e' is. stored index e' is)

    cert_made : (index : Option ℕ) → IsMadeIfAny (option_and_then (cert_in X) index)
    cert_made None = tt
    cert_made (Some index) = one (slice_get X index) (λ e' is. stored index e' is) where
      one : (entry : Option Entry) → ((e' : Entry) → entry ≡ Some e' → EntryMade e') → IsMadeIfAny (option_and_then key_certified entry)
      one None all = tt
      one (Some entry) all = key_of_entry entry (all entry refl)

    certified_made : (principal : Option (List ℕ)) (usage : List ℕ) → IsMadeIfAny (option_and_then (λ p. key_of X p usage) principal)
    certified_made None usage = tt
    certified_made (Some p) usage = cert_made (find_cert X p usage)

    pick_entry : (b : Bool) (entry : Entry) (rest : Option Entry) → EntryMade entry → AreMadeIfAny (option_map (λ (x : Stored). x.fields) (option_and_then stored_by rest))
        → AreMadeIfAny (option_map (λ (x : Stored). x.fields) (option_and_then stored_by (cond b (Some entry) rest)))
    pick_entry true entry rest made later = fields_of_entry entry made
    pick_entry false entry rest made later = later

    found_fields : (test : Entry → Bool) (xs : List Entry) → ((i : ℕ) (entry : Entry) → slice_get xs i ≡ Some entry → EntryMade entry)
        → AreMadeIfAny (option_map (λ (x : Stored). x.fields) (option_and_then stored_by (find test xs)))
    found_fields test [] all = tt
    found_fields test (x ∷ xs) all = pick_entry (test x) x (find test xs) (all zero x refl) (found_fields test xs (λ i entry at. all (suc i) entry at))

    -- ---- what a line does

    puts_made : (item : Term → Item) → ((term : Term) → HasMadeNonces U term → ItemMade (item term) × BindsNonce (item term) None) → (term : Option Term) → IsMadeIfAny term → EffectMade (puts item term)
    puts_made item fine None made = tt
    puts_made item fine (Some term) made = fine term made

    puts_if : (b : Bool) (item : Item) → ItemMade item × BindsNonce item None → EffectMade (if b then effects.Puts item None else effects.Fails)
    puts_if true item made = made
    puts_if false item made = tt

    line_made : (names : Names) → WrittenMade names.written → (k : kind.Kind) (act : Act) → EffectMade (effect_of X names k act)
    line_made names made k (s.New name usage label) = (tt, tt)
    line_made names made k (s.Let name expr) = writes_made name.word (if_small (value names expr)) (made_if (nat_le (size (value names expr)) MAX_NODES) (value names expr) (value_made names made expr))
    line_made names made k (s.Event atom) =
        puts_if (are_small (map (bytes_for names) atom.args)) (items.Event atom.event.word (map (bytes_for names) atom.args)) (all_for_made names made atom.args, tt)
    line_made names made k (s.Send expr) =
        puts_made items.Message (λ term m. (m, tt)) (if_small (value names expr)) (made_if (nat_le (size (value names expr)) MAX_NODES) (value names expr) (value_made names made expr))
    line_made names made k (s.Store state fields) =
        puts_if (are_small (map (value names) fields)) (items.State (newest X names.principal names.session + 1) state.word (map (value names) fields)) (all_values_made names made fields, tt)
    line_made names made k (s.Certify key usage) =
        puts_made (items.Cert usage.word) (λ term m. (m, tt)) (option_and_then if_small (public_key k (bytes_at names key.word))) (public_made k (bytes_at names key.word) (at_made names made key.word))
    line_made names made k (s.Find usage owner name) =
        writes_made name.word (option_and_then (λ p. key_of X p usage.word) (principal_for names owner)) (certified_made (principal_for names owner) usage.word)
    line_made names made k (s.Recall state pats) =
        matched_made names pats (option_map (λ (x : Stored). x.fields) (option_and_then stored_by (find (matches_first X names state.word pats) X))) (found_fields (matches_first X names state.word pats) X stored)
    line_made names made k (s.Split split tag pats) = tuple_matched names tag pats (Some (bytes_at names split.word)) (at_made names made split.word)
    line_made names made k (s.Opened sealed key usage tag pats ad) =
        tuple_matched names tag pats (option_and_then (aead_message_with (bytes_at names sealed.word) (bytes_at names key.word)) (if_small (value names ad)))
        (aead_made (bytes_at names sealed.word) (bytes_at names key.word) (if_small (value names ad)) (at_made names made sealed.word))
    line_made names made k (s.Popened sealed key usage tag pats) =
        tuple_matched names tag pats (penc_message (bytes_at names sealed.word) (bytes_at names key.word)) (penc_made (bytes_at names sealed.word) (bytes_at names key.word) (at_made names made sealed.word))
    line_made names made k (s.Verify signed key usage tag pats) =
        tuple_matched names tag pats (verified_message (bytes_at names signed.word) (bytes_at names key.word)) (verified_made (bytes_at names signed.word) (bytes_at names key.word) (at_made names made signed.word))
    line_made names made k (s.Check code key usage tag args) = effect_if _ [] tt
    line_made names made k (s.Same left right) = effect_if (is_same (bytes_for names left) (bytes_for names right)) [] tt

    effect_made : (names : Names) → WrittenMade names.written → (line : Line) → EffectMade (effect X names line)
    effect_made names made (GoesOn on) =
        matched_made names on.pats (option_and_then (fields_tagged on.state.word) (option_and_then (state_in X) (state_at X names.principal names.session (newest X names.principal names.session))))
        (at_index on.state.word (state_at X names.principal names.session (newest X names.principal names.session)))
    effect_made names made (Does k act) = line_made names made k act

    -- ---- what an instance does next

    next_made : (names : Names) (number : ℕ) (more : List Line) (done : Effect) → WrittenMade names.written → EffectMade done → (goes_on : Names → Next)
        → ((written : List Written) → WrittenMade (write names written).written → NextMade (goes_on (write names written)))
        → NextMade (next_by done names number more goes_on)
    next_made names number more (effects.Puts item binds) made done goes_on rest = (done.0, done.1, made)
    next_made names number more (effects.Writes written) made done goes_on rest = rest written (written_more names.written written made done)
    next_made names number more effects.Fails made done goes_on rest = tt

    pub runs_made : (names : Names) (number : ℕ) (lines : List Line) → WrittenMade names.written → NextMade (runs X names number lines)
    runs_made names number [] made = tt
    runs_made names number (line ∷ more) made =
        next_made names number more (effect X names line) made (effect_made names made line) (λ after. runs X after (number + 1) more)
        (λ written later. runs_made (write names written) (number + 1) more later)

    due_made : (item : Item) (binds : Option (List ℕ)) (index : ℕ) → BindsNonce item binds → (IsFreshItem item → IsMade U index) → WrittenMade (nonce_due binds index)
    due_made item None index binds_nonce made = tt
    due_made (items.Fresh label usage) (Some word) index binds_nonce made = (made tt, tt)
    due_made item (Some word) index binds_nonce made = absurd binds_nonce

    pub step_made : (item : Item) (binds : Option (List ℕ)) (left : Left) (index : ℕ) → NextMade (Puts item binds left) → (IsFreshItem item → IsMade U index) → NextMade (step X (Puts item binds left) index)
    step_made item binds left index made fresh =
        runs_made (tell index binds left).names left.number left.lines
        (written_more left.names.written (nonce_due binds index) made.2 (due_made item binds index made.1 fresh))
