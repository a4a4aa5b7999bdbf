-- Of one file and its plan there is one serial interleaving at most.
use Rattle.std.proofs.Common.{◌≡◌, ℕ, zero, suc, ◌+◌, ◌<◌, ◌≤◌, ◌&&◌, ◌==◌, Bool, true, false, List, [], ◌∷◌, length, take, Option, Some, None, if◌then◌else◌, ◌⊎◌, inl, inr, refl, ap, sym, subst, ◌∙◌, arith}
use Rattle.std.specs.Prelude.{IsSome}
use Rattle.std.specs.Option.{option_and_then, is_some}
use Rattle.std.specs.List.{slice_get}
use Rattle.dy_syntax.specs.Files.{Decl, File}
use Rattle.dy_entry.specs.Entries.{Entry, Setup, Start, Fresh, Message, State, Event, Cert, End, Corrupt, Forge, Inject, Skip}
use Rattle.dy_entry.specs.Summaries.{is_start}
use Rattle.dy_traces.specs.Steps.{has_step}
use Rattle.dy_traces.specs.Instances.{is_end_of, end_of, entry_next, next_entry}
use Rattle.dy_traces.specs.Following.{MayFollow}
use Rattle.dy_traces.specs.Interleavings.{Interleaves}
use Rattle.dy_traces.proofs.Prefixes.{in_prefix, stands_in_prefix, below_length, stands_at, in_order}
use Rattle.dy_traces.proofs.Searches.{none_passes, found_passes}
use Rattle.dy_plan.specs.Steps.{step_count}
use Rattle.dy_plan.specs.Resolving.{entry_of_step}
use Rattle.dy_plan.specs.Completeness.{step_started, step_of_instance, step_of, owner, is_setup, opens, IsDone, IsSerial}
use Rattle.dy_plan.proofs.Owners.{same_number, and_then_some, of_own_step, owner_at}
use Rattle.dy_plan.proofs.Resolutions.{entry_has_step}

-- What follows a prefix is the entry of its own step, or what an instance puts next that has not ended.
pub record IsNextOf (decls : List Decl) (X : List Entry) (f : Entry) (number : ℕ) : Type 0 where
  pub instance : ℕ
  pub start : Entry
  pub stands : slice_get X instance ≡ Some start
  pub starts : is_start start ≡ true
  pub of_step : has_step number start ≡ true
  pub next : next_entry decls X instance ≡ Some f
  pub goes_on : end_of X instance ≡ None

split_next : (b : Bool) (rest : Option Entry) (f : Entry) → (if b then None else rest) ≡ Some f → (b ≡ false) × (rest ≡ Some f)
split_next true rest f is = absurd cc
split_next false rest f is = (refl, is)

none_from : (o : Option ℕ) → is_some o ≡ false → o ≡ None
none_from None is = refl
none_from (Some x) is = absurd cc

started_by : (s : Entry) (number : ℕ) → step_started s ≡ Some number → (is_start s ≡ true) × (has_step number s ≡ true)
started_by (Start step handler principal session args message) number is =
    let same : step ≡ number = cc in
    (refl, ap (λ (n : ℕ). n == number) same ∙ search arith)
started_by s number is = absurd cc

module _ (decls : List Decl) (T : List Entry) (n : ℕ) where
  -- what an instance puts next, of the step of its Start
  of_instance_next : (instance number : ℕ) (f : Entry) → next_entry decls (take n T) instance ≡ Some f → step_of_instance T instance ≡ Some number
      → IsNextOf decls (take n T) f number
  of_instance_next instance number f next step =
      let X = take n T in
      let parts = split_next (is_some (end_of X instance)) (option_and_then (entry_next decls X instance) (slice_get X instance)) f next in
      let found = and_then_some (entry_next decls X instance) (slice_get X instance) f parts.1 in
      let whole = and_then_some step_started (slice_get T instance) number step in
      let here = in_prefix T n instance found.0 found.1 in
      let same : found.0 ≡ whole.0 = (let a = here.1 in let b = whole.1 in cc) in
      let started = started_by found.0 number (ap step_started same ∙ whole.2) in
      record {
        instance = instance;
        start = found.0;
        stands = found.1;
        starts = started.0;
        of_step = started.1;
        next = next;
        goes_on = none_from (end_of X instance) parts.0;
      }

  by_kind : (f : Entry) (number : ℕ) → MayFollow decls (take n T) f → step_of T f ≡ Some number → (has_step number f ≡ true) ⊎ IsNextOf decls (take n T) f number
  by_kind (Setup input) number may step = absurd may
  by_kind (Start other handler principal session args message) number may step =
      let same : other ≡ number = cc in inl (ap (λ (n : ℕ). n == number) same ∙ search arith)
  by_kind (Corrupt other corruption) number may step = let same : other ≡ number = cc in inl (ap (λ (n : ℕ). n == number) same ∙ search arith)
  by_kind (Forge other) number may step = let same : other ≡ number = cc in inl (ap (λ (n : ℕ). n == number) same ∙ search arith)
  by_kind (Inject other value) number may step = let same : other ≡ number = cc in inl (ap (λ (n : ℕ). n == number) same ∙ search arith)
  by_kind (Skip other) number may step = let same : other ≡ number = cc in inl (ap (λ (n : ℕ). n == number) same ∙ search arith)
  by_kind (Fresh instance label usage) number may step = inr (of_instance_next instance number (Fresh instance label usage) may step)
  by_kind (Message instance value) number may step = inr (of_instance_next instance number (Message instance value) may step)
  by_kind (State instance principal session version tag fields) number may step =
      inr (of_instance_next instance number (State instance principal session version tag fields) may step)
  by_kind (Event instance principal name args) number may step = inr (of_instance_next instance number (Event instance principal name args) may step)
  by_kind (Cert instance principal usage key) number may step = inr (of_instance_next instance number (Cert instance principal usage key) may step)
  by_kind (End instance outcome) number may step = inr (of_instance_next instance number (End instance outcome) may step)

at_index : (i : ℕ) (e : Entry) → 0 < i → opens i e ≡ false
at_index zero e after = absurd (omega (arith, after))
at_index (suc i) e after = let later : (suc i == 0) ≡ false = search arith in ap (λ (b : Bool). b && is_setup e) later

end_found : (T : List Entry) (instance : ℕ) → IsSome (end_of T instance) → (m : ℕ) × (e : Entry) × (slice_get T m ≡ Some e) × (is_end_of instance e ≡ true)
end_found T instance some = by (end_of T instance) refl some
  where
    by : (o : Option ℕ) → end_of T instance ≡ o → IsSome o → (m : ℕ) × (e : Entry) × (slice_get T m ≡ Some e) × (is_end_of instance e ≡ true)
    by None is some = absurd cc
    by (Some m) is some = let found = found_passes (is_end_of instance) T m is in (m, found.0, found.1, found.2)

of_end : (T : List Entry) (instance : ℕ) (e : Entry) → is_end_of instance e ≡ true → step_of T e ≡ step_of_instance T instance
of_end T instance (End other outcome) is = ap (step_of_instance T) (same_number other instance is)
of_end T instance e is = absurd cc

started_is : (s : Entry) (number : ℕ) → is_start s ≡ true → has_step number s ≡ true → step_started s ≡ Some number
started_is (Start step handler principal session args message) number starts has = ap Some (same_number step number has)
started_is s number starts has = absurd cc

-- One of two serial interleavings, at an index after its Setup.
module _ (bytes : List ℕ) (file : File) (T : List Entry) (is : Interleaves bytes file T) (serial : IsSerial file.plan T) where
  -- what stands after the Setup is of a step of the plan, and is its own entry or what its instance puts next
  placed : (n : ℕ) (e : Entry) → 0 < n → slice_get T n ≡ Some e
      → (number : ℕ) × ((step_of T e ≡ Some number) × ((number < step_count file.plan) × ((has_step number e ≡ true) ⊎ IsNextOf file.decls (take n T) e number)))
  placed n e after at =
      let own = serial.complete.of_steps n e at (at_index n e after) in
      (own.0, (own.1, (own.2, by_kind file.decls T n e own.0 (is.follows n e after at) own.1)))

  -- the instance of a step ends before what is of a later step
  ended : (n number later : ℕ) (e : Entry) (instance : ℕ) (start : Entry) → slice_get T n ≡ Some e → step_of T e ≡ Some later → number < later
      → slice_get T instance ≡ Some start → is_start start ≡ true → has_step number start ≡ true → IsDone file.plan T number → end_of (take n T) instance ≡ None → ⊥
  ended n number later e instance start at of_later less stands starts of_step done none =
      let here : instance ≡ done.at = done.one instance start stands of_step in
      let both : Some start ≡ Some (entry_of_step file.plan (take done.at T) number) = sym stands ∙ ap (slice_get T) here ∙ done.stands in
      let same : start ≡ entry_of_step file.plan (take done.at T) number = cc in
      let some : IsSome (end_of T instance) = ap (λ (i : ℕ). is_some (end_of T i)) here ∙ done.ends (ap is_start (sym same) ∙ starts) in
      let end = end_found T instance some in
      let number_of_end : step_of T end.1 ≡ Some number =
      of_end T instance end.1 end.3 ∙ ap (option_and_then step_started) stands ∙ started_is start number starts of_step in
      let before : end.0 < n = serial.in_order end.0 n number later (owner_at T end.0 end.1 end.2 ∙ number_of_end) (owner_at T n e at ∙ of_later) less in
      let fails = none_passes (is_end_of instance) (take n T) none end.0 end.1 (stands_in_prefix T n end.0 end.1 before end.2) in
      let passes = end.3 in
      absurd cc

module _ (bytes : List ℕ) (file : File) (T U : List Entry) (is_T : Interleaves bytes file T) (serial_T : IsSerial file.plan T)
    (is_U : Interleaves bytes file U) (serial_U : IsSerial file.plan U) (n : ℕ) (after : 0 < n) (same : take n T ≡ take n U) where
  from_T : (i : ℕ) (x : Entry) → i < n → slice_get T i ≡ Some x → slice_get U i ≡ Some x
  from_T i x below at = (in_prefix U n i x (ap (λ (X : List Entry). slice_get X i) (sym same) ∙ stands_in_prefix T n i x below at)).1

  from_U : (i : ℕ) (x : Entry) → i < n → slice_get U i ≡ Some x → slice_get T i ≡ Some x
  from_U i x below at = (in_prefix T n i x (ap (λ (X : List Entry). slice_get X i) same ∙ stands_in_prefix U n i x below at)).1

  -- what stands next in the one is of no earlier step than what stands next in the other
  no_earlier : (e f : Entry) (k l : ℕ) → slice_get T n ≡ Some e → step_of T e ≡ Some k → slice_get U n ≡ Some f → IsDone file.plan T l → IsDone file.plan U l
      → (has_step l f ≡ true) ⊎ IsNextOf file.decls (take n U) f l → l < k → ⊥
  no_earlier e f k l at_T of_k at_U done_T done_U (inl own) less =
      let t = done_T.at in
      let entry = entry_of_step file.plan (take t T) l in
      let has : has_step l entry ≡ true = entry_has_step file.plan (take t T) l in
      let before : t < n = serial_T.in_order t n l k (owner_at T t entry done_T.stands ∙ of_own_step T l entry has) (owner_at T n e at_T ∙ of_k) less in
      let also = done_U.one t entry (from_T t entry before done_T.stands) has in
      let here = done_U.one n f at_U own in
      omega (arith, before, also, here)
  no_earlier e f k l at_T of_k at_U done_T done_U (inr next) less =
      let instance = next.instance in
      let in_U = in_prefix U n instance next.start next.stands in
      ended bytes file T is_T serial_T n l k e instance next.start at_T of_k less (from_U instance next.start in_U.0 in_U.1) next.starts next.of_step done_T
      (ap (λ (X : List Entry). end_of X instance) same ∙ next.goes_on)

  -- what stands next in the other, where it is of the same step
  own_next : (e f : Entry) (k : ℕ) → IsDone file.plan T k → slice_get T n ≡ Some e → has_step k e ≡ true → IsDone file.plan U k → slice_get U n ≡ Some f
      → (has_step k f ≡ true) ⊎ IsNextOf file.decls (take n U) f k → slice_get U n ≡ Some e
  own_next e f k done_T at_T own done_U at_U (inl also) =
      let t = done_T.one n e at_T own in
      let u = done_U.one n f at_U also in
      let entry = λ (X : List Entry). entry_of_step file.plan X k in
      let in_T : Some e ≡ Some (entry (take n T)) = sym at_T ∙ ap (slice_get T) t ∙ done_T.stands ∙ ap (λ (i : ℕ). Some (entry (take i T))) (sym t) in
      let in_U : slice_get U n ≡ Some (entry (take n U)) = ap (slice_get U) u ∙ done_U.stands ∙ ap (λ (i : ℕ). Some (entry (take i U))) (sym u) in
      in_U ∙ ap (λ (X : List Entry). Some (entry X)) (sym same) ∙ sym in_T
  own_next e f k done_T at_T own done_U at_U (inr next) =
      let in_U = in_prefix U n next.instance next.start next.stands in
      let u = done_T.one next.instance next.start (from_U next.instance next.start in_U.0 in_U.1) next.of_step in
      let t = done_T.one n e at_T own in
      let below = in_U.0 in
      absurd (omega (arith, u, t, below))

  instance_next : (e f : Entry) (k : ℕ) → IsDone file.plan T k → IsNextOf file.decls (take n T) e k → IsDone file.plan U k → slice_get U n ≡ Some f
      → (has_step k f ≡ true) ⊎ IsNextOf file.decls (take n U) f k → slice_get U n ≡ Some e
  instance_next e f k done_T next done_U at_U (inl own) =
      let in_T = in_prefix T n next.instance next.start next.stands in
      let u = done_U.one next.instance next.start (from_T next.instance next.start in_T.0 in_T.1) next.of_step in
      let also = done_U.one n f at_U own in
      let below = in_T.0 in
      absurd (omega (arith, u, also, below))
  instance_next e f k done_T next done_U at_U (inr other) =
      let in_T = in_prefix T n next.instance next.start next.stands in
      let in_U = in_prefix U n other.instance other.start other.stands in
      let u = done_U.one next.instance next.start (from_T next.instance next.start in_T.0 in_T.1) next.of_step in
      let v = done_U.one other.instance other.start in_U.1 other.of_step in
      let here : other.instance ≡ next.instance = v ∙ sym u in
      let puts : Some f ≡ Some e =
      sym other.next ∙ ap (λ (i : ℕ). next_entry file.decls (take n U) i) here ∙ ap (λ (X : List Entry). next_entry file.decls X next.instance) (sym same) ∙ next.next in
      at_U ∙ puts

  -- what stands next in the other where something of its step or a later one still comes
  by_order : (e f : Entry) (k l m : ℕ) → slice_get T n ≡ Some e → step_of T e ≡ Some k → k < step_count file.plan
      → (has_step k e ≡ true) ⊎ IsNextOf file.decls (take n T) e k
      → slice_get U n ≡ Some f → step_of U f ≡ Some l → l < step_count file.plan → (has_step l f ≡ true) ⊎ IsNextOf file.decls (take n U) f l
      → owner U m ≡ Some k → n ≤ m → slice_get U n ≡ Some e
  by_order e f k l m at_T of_k low_k kind_T at_U of_l low_l kind_U of_m late =
      elim (in_order k l) [
        | inl less ↦
            let before = serial_U.in_order m n k l of_m (owner_at U n f at_U ∙ of_l) less in
            absurd (omega (arith, before, late))
        | inr rest ↦ elim rest [
          | inl equal ↦
              let kind : (has_step k f ≡ true) ⊎ IsNextOf file.decls (take n U) f k =
              subst (λ (x : ℕ). (has_step x f ≡ true) ⊎ IsNextOf file.decls (take n U) f x) (sym equal) kind_U in
              let done_T = serial_T.complete.done k low_k in
              let done_U = serial_U.complete.done k low_k in
              elim kind_T [
                | inl own ↦ own_next e f k done_T at_T own done_U at_U kind
                | inr next ↦ instance_next e f k done_T next done_U at_U kind
              ]
          | inr more ↦
              absurd (no_earlier e f k l at_T of_k at_U (serial_T.complete.done l low_l) (serial_U.complete.done l low_l) kind_U more)
        ]
      ]

  with_later : (e : Entry) (k m : ℕ) (x : Entry) → slice_get T n ≡ Some e → step_of T e ≡ Some k → k < step_count file.plan
      → (has_step k e ≡ true) ⊎ IsNextOf file.decls (take n T) e k
      → slice_get U m ≡ Some x → step_of U x ≡ Some k → n ≤ m → slice_get U n ≡ Some e
  with_later e k m x at_T of_k low_k kind_T at_m of_x late =
      let below = below_length U m x at_m in
      let f = stands_at U n (omega (arith, below, late)) in
      let own = placed bytes file U is_U serial_U n f.0 after f.1 in
      by_order e f.0 k own.0 m at_T of_k low_k kind_T f.1 own.1.0 own.1.1.0 own.1.1.1 (owner_at U m x at_m ∙ of_x) late

  by_own : (e : Entry) (k : ℕ) → slice_get T n ≡ Some e → step_of T e ≡ Some k → k < step_count file.plan → has_step k e ≡ true → slice_get U n ≡ Some e
  by_own e k at of_k low own =
      let done_T = serial_T.complete.done k low in
      let done_U = serial_U.complete.done k low in
      let u = done_U.at in
      let entry = entry_of_step file.plan (take u U) k in
      let has : has_step k entry ≡ true = entry_has_step file.plan (take u U) k in
      let not_before : u < n → ⊥ = λ before.
      let also = done_T.one u entry (from_U u entry before done_U.stands) has in
      let here = done_T.one n e at own in
      omega (arith, before, also, here) in
      elim (in_order u n) [
        | inl before ↦ absurd (not_before before)
        | inr rest ↦
            let late : n ≤ u = elim rest [ inl equal ↦ omega (arith, equal) | inr more ↦ omega (arith, more) ] in
            with_later e k u entry at of_k low (inl own) done_U.stands (of_own_step U k entry has) late
      ]

  by_instance : (e : Entry) (k : ℕ) → slice_get T n ≡ Some e → step_of T e ≡ Some k → k < step_count file.plan → IsNextOf file.decls (take n T) e k
      → slice_get U n ≡ Some e
  by_instance e k at of_k low next =
      let done_U = serial_U.complete.done k low in
      let i = next.instance in
      let in_T = in_prefix T n i next.start next.stands in
      let in_U = from_T i next.start in_T.0 in_T.1 in
      let here = done_U.one i next.start in_U next.of_step in
      let both : Some next.start ≡ Some (entry_of_step file.plan (take done_U.at U) k) = sym in_U ∙ ap (slice_get U) here ∙ done_U.stands in
      let start : next.start ≡ entry_of_step file.plan (take done_U.at U) k = cc in
      let some : IsSome (end_of U i) = ap (λ (j : ℕ). is_some (end_of U j)) here ∙ done_U.ends (ap is_start (sym start) ∙ next.starts) in
      let end = end_found U i some in
      let of_x : step_of U end.1 ≡ Some k = of_end U i end.1 end.3 ∙ ap (option_and_then step_started) in_U ∙ started_is next.start k next.starts next.of_step in
      let not_before : end.0 < n → ⊥ = λ before.
      let fails = none_passes (is_end_of i) (take n U) (ap (λ (X : List Entry). end_of X i) (sym same) ∙ next.goes_on) end.0 end.1
      (stands_in_prefix U n end.0 end.1 before end.2) in
      let passes = end.3 in
      absurd cc in
      elim (in_order end.0 n) [
        | inl before ↦ absurd (not_before before)
        | inr rest ↦
            let late : n ≤ end.0 = elim rest [ inl equal ↦ omega (arith, equal) | inr more ↦ omega (arith, more) ] in
            with_later e k end.0 end.1 at of_k low (inr next) end.2 of_x late
      ]

  -- what stands next in the one stands next in the other
  next_same : (e : Entry) → slice_get T n ≡ Some e → slice_get U n ≡ Some e
  next_same e at =
      let own = placed bytes file T is_T serial_T n e after at in
      elim own.1.1.1 [
        | inl has ↦ by_own e own.0 at own.1.0 own.1.1.0 has
        | inr next ↦ by_instance e own.0 at own.1.0 own.1.1.0 next
      ]

same_options : {A : Type 0} (o p : Option A) → ((x : A) → o ≡ Some x → p ≡ Some x) → ((x : A) → p ≡ Some x → o ≡ Some x) → o ≡ p
same_options None None first second = refl
same_options None (Some y) first second = second y refl
same_options (Some x) p first second = sym (first x refl)

take_same : {A : Type 0} (xs ys : List A) (n : ℕ) → take n xs ≡ take n ys → slice_get xs n ≡ slice_get ys n → take (suc n) xs ≡ take (suc n) ys
take_same [] [] n prefix next = refl
take_same [] (y ∷ ys) zero prefix next = absurd cc
take_same [] (y ∷ ys) (suc n) prefix next = absurd cc
take_same (x ∷ xs) [] zero prefix next = absurd cc
take_same (x ∷ xs) [] (suc n) prefix next = absurd cc
take_same (x ∷ xs) (y ∷ ys) zero prefix next = cc
take_same (x ∷ xs) (y ∷ ys) (suc n) prefix next =
    let first : x ≡ y = cc in
    let rest : take n xs ≡ take n ys = cc in
    let later = take_same xs ys n rest next in
    ap (λ z. z ∷ take (suc n) xs) first ∙ ap (λ zs. y ∷ zs) later

take_past : {A : Type 0} (xs : List A) (n : ℕ) → length xs ≤ n → take n xs ≡ xs
take_past [] zero past = refl
take_past [] (suc n) past = refl
take_past (x ∷ xs) zero past = absurd (omega (arith, past))
take_past (x ∷ xs) (suc n) past = ap (λ ys. x ∷ ys) (take_past xs n (omega (arith, past)))

module _ (bytes : List ℕ) (file : File) (T U : List Entry) (is_T : Interleaves bytes file T) (serial_T : IsSerial file.plan T)
    (is_U : Interleaves bytes file U) (serial_U : IsSerial file.plan U) where
  same_prefix : (n : ℕ) → take n T ≡ take n U
  same_prefix zero = refl
  same_prefix (suc zero) = take_same T U 0 refl (is_T.opens ∙ sym is_U.opens)
  same_prefix (suc (suc n)) =
      let before = same_prefix (suc n) in
      let after : 0 < suc n = omega arith in
      take_same T U (suc n) before
      (same_options (slice_get T (suc n)) (slice_get U (suc n))
      (next_same bytes file T U is_T serial_T is_U serial_U (suc n) after before)
      (next_same bytes file U T is_U serial_U is_T serial_T (suc n) after (sym before)))

  -- two serial interleavings of one file are the same
  pub one_serial : T ≡ U
  one_serial =
      let n = length T + length U in
      let first : length T ≤ n = omega arith in
      let second : length U ≤ n = omega arith in
      sym (take_past T n first) ∙ same_prefix n ∙ take_past U n second
