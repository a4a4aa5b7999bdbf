use Rattle.std.proofs.Common.{◌≡◌, ◌<◌, ◌^◌, List, [], ◌∷◌, ◌++◌, length, take, vec_len, Some, refl, ap, sym, ◌∙◌, subst, arith}
use Rattle.std.proofs.Math.Logic.{∥∥₁_elim, ∥∥₁_prop}
use Rattle.std.proofs.lemmas.Bool.{eq-eqb}
use Rattle.std.proofs.lemmas.List.{length-map, map-append}
use Rattle.std.specs.Option.{option_and_then}
use Rattle.std.specs.List.{slice_get, remove}
use Rattle.dy_syntax.specs.Meaning.{file_of}
use Rattle.dy_entry.specs.Entries.{Entry, End}
use Rattle.dy_entry.specs.declared.entries.Entry as declared
use Rattle.dy_entry.specs.Meaning.{entry_of, entries_of}
use Rattle.dy_eval.specs.declared.items.Emit.TheVariants as emits
use Rattle.dy_eval.specs.Meaning.{standing_of}
use Rattle.dy_eval.specs.Past.{HasEachVersionOnce}
use Rattle.dy_eval.specs.Turns.{emit_of, standing_after, HasRoomForVersions}
use Rattle.dy_core.specs.declared.running.Running.{Running}
use Rattle.dy_core.specs.MirrorBooks.{IsBook, next_of_kept, item_entry}
use Rattle.dy_traces.specs.Instances.{next_entry}
use Rattle.dy_traces.proofs.Prefixes.{below_length}
use Rattle.dy_core.proofs.NextOnce.{next_prop}
use Rattle.dy_core.proofs.Stepping.{IsAsked-prop, none_two, place_holds, item_put, end_next, put_next, book_with_end, book_as_before, book_with_put}
use Rattle.dy_core.proofs.Turning.{once_from, room_from, once_before, starts_late, room_before, puts_from, ends_from, trace_more, grown_to}
use Rattle.dy_core.proofs.books.Book.take_step.Goals as goal

pub take_turn-requires-clause-within : goal.take_turn-requires-clause-within
take_turn-requires-clause-within c =
    let place = place_holds c.args.self.now.running.items c.args.at c.args.instance c.remove-kept.result c.requires.place c.remove-kept.ensures.value in
    let own = place.1 in
    let below = below_length (entries_of c.args.self.now.entries.items) c.args.instance c.requires.stands.0 c.requires.stands.1 in
    let as_many = length-map c.args.self.now.entries.items entry_of in
    let slice : length c.as_slice.result.now ≡ length c.args.self.now.entries.items = ap length (c.as_slice.ensures.value ∙ c.reserve.ensures.items) in
    omega (arith, own, below, as_many, slice)

pub take_turn-requires-clause-once : goal.take_turn-requires-clause-once
take_turn-requires-clause-once c =
    let n = c.remove-kept.result.start in
    subst (λ (es : List declared.Entry). HasEachVersionOnce (take n (entries_of es))) (sym (c.as_slice.ensures.value ∙ c.reserve.ensures.items))
    (once_from (take n (entries_of c.args.self.now.entries.items)) (λ not. ∥∥₁_elim c.args.self.now.holds none_two (λ book.
    not (once_before (entries_of c.args.self.now.entries.items) n (c.versions_stand_once.ensures.once book.bytes (file_of c.args.self.now.file) (entries_of c.args.self.now.entries.items) book.interleaves)))))

pub take_turn-requires-clause-room : goal.take_turn-requires-clause-room
take_turn-requires-clause-room c =
    let n = c.remove-kept.result.start in
    let T = entries_of c.args.self.now.entries.items in
    let file = file_of c.args.self.now.file in
    let place = place_holds c.args.self.now.running.items c.args.at c.args.instance c.remove-kept.result c.requires.place c.remove-kept.ensures.value in
    let own = place.1 in
    let below = below_length T c.args.instance c.requires.stands.0 c.requires.stands.1 in
    let as_many = length-map c.args.self.now.entries.items entry_of in
    let within : n < length T = omega (arith, own, below) in
    let few : length T < 2 ^ 32 = omega (arith, as_many, c.args.self.now.few) in
    let stands : slice_get T n ≡ Some c.requires.stands.0 = ap (slice_get T) own ∙ c.requires.stands.1 in
    subst (λ (es : List declared.Entry). HasRoomForVersions (take n (entries_of es))) (sym (c.as_slice.ensures.value ∙ c.reserve.ensures.items))
    (room_from (take n T) (λ not. ∥∥₁_elim c.args.self.now.holds none_two (λ book.
    let late = starts_late book.bytes T n c.requires.stands.0 book.interleaves.opens stands c.requires.stands.2 in
    not (room_before T n within few (λ p s. c.versions_stand_once.ensures.few book.bytes file (take n T) p s (c.prefixes_are_interleavings.ensures.prefix book.bytes file T n book.interleaves late))))))

pub take_turn-requires-clause-asked : goal.take_turn-requires-clause-asked
take_turn-requires-clause-asked c =
    let old = c.remove-kept.result in
    let place = place_holds c.args.self.now.running.items c.args.at c.args.instance old c.requires.place c.remove-kept.ensures.value in
    ∥∥₁_elim c.args.self.now.holds (IsAsked-prop (standing_of old.instance) old.landed) (λ book. (book.kept c.args.at old place.0).asked)

pub invariant_of-self-in-Err-clause-holds : goal.invariant_of-self-in-Err-clause-holds
invariant_of-self-in-Err-clause-holds c =
    let file = file_of c.args.self.now.file in
    let entries = c.args.self.now.entries.items in
    let running = c.args.self.now.running.items in
    let old = c.remove-kept.result in
    let place = place_holds running c.args.at c.args.instance old c.requires.place c.remove-kept.ensures.value in
    let r : Running = c.take_turn.new.kept in
    let rows : c.push_within-in-Err.new.items.items ≡ remove running c.args.at ++ r ∷ [] =
    c.push_within-in-Err.ensures ∙ ap (λ (rs : List Running). rs ++ r ∷ []) c.remove-kept.ensures.items in
    ∥∥₁_elim c.args.self.now.holds ∥∥₁_prop (λ book. ∣
    subst (λ (es : List declared.Entry). IsBook file (entries_of es) c.push_within-in-Err.new.items.items) (sym c.reserve.ensures.items)
    (subst (λ (rs : List Running). IsBook file (entries_of entries) rs) (sym rows)
    (book_as_before file (entries_of entries) running c.args.at old place.0 r c.in-Err.ensures.start c.in-Err.ensures.landed c.in-Err.ensures.memory book)) ∣₁)

pub invariant_of-self-in-Ok-End-clause-holds : goal.invariant_of-self-in-Ok-End-clause-holds
invariant_of-self-in-Ok-End-clause-holds c =
    let file = file_of c.args.self.now.file in
    let entries = c.args.self.now.entries.items in
    let T = entries_of entries in
    let running = c.args.self.now.running.items in
    let old = c.remove-kept.result in
    let outcome = c.in-Ok-End.outcome in
    let place = place_holds running c.args.at c.args.instance old c.requires.place c.remove-kept.ensures.value in
    let same_slice = c.as_slice.ensures.value ∙ c.reserve.ensures.items in
    let answers : emit_of (next_of_kept T old) ≡ emits.End outcome =
    ap (λ (es : List declared.Entry). emit_of (next_of_kept (entries_of es) old)) (sym same_slice) ∙ sym c.in-Ok-End.ensures.emit ∙ c.in-Ok-End.field-0-is in
    let ends = ends_from (next_of_kept T old) outcome answers in
    let names : End old.start outcome ≡ End c.args.instance outcome = ap (λ n. End n outcome) place.1 in
    ∥∥₁_elim c.args.self.now.holds ∥∥₁_prop (λ book. ∣ grown_to file entries c.reserve.new.self.items c.push_within-in-Ok-End.new.items.items _
    (remove running c.args.at) c.remove-kept.new.self.items c.push_within-in-Ok-End.ensures c.reserve.ensures.items c.remove-kept.ensures.items
    (subst (λ (e : Entry). IsBook file (T ++ e ∷ []) (remove running c.args.at)) names
    (book_with_end file T running c.args.at old place.0 outcome ends
    (λ bytes is_one may. c.a_longer_interleaving.ensures.longer bytes file T (End old.start outcome) is_one may)
    (λ short. c.a_longer_short_trace.ensures T (End old.start outcome) short (λ step is. absurd cc)) book)) ∣₁)

pub invariant_of-self-in-Ok-Put-clause-holds : goal.invariant_of-self-in-Ok-Put-clause-holds
invariant_of-self-in-Ok-Put-clause-holds c =
    let file = file_of c.args.self.now.file in
    let entries = c.args.self.now.entries.items in
    let T = entries_of entries in
    let running = c.args.self.now.running.items in
    let old = c.remove-kept.result in
    let item = c.in-Ok-Put.item in
    let e = entry_of c.item_entry-entry.result in
    let place = place_holds running c.args.at c.args.instance old c.requires.place c.remove-kept.ensures.value in
    let same_slice = c.as_slice.ensures.value ∙ c.reserve.ensures.items in
    let answers : emit_of (next_of_kept T old) ≡ emits.Put item =
    ap (λ (es : List declared.Entry). emit_of (next_of_kept (entries_of es) old)) (sym same_slice) ∙ sym c.in-Ok-Put.ensures.emit ∙ c.in-Ok-Put.field-0-is in
    let puts = puts_from (next_of_kept T old) item answers in
    let r : Running = record { start = c.take_turn.new.kept.start; landed = Some c.len-index.result; instance = c.take_turn.new.kept.instance } in
    let stands : standing_of r.instance ≡ standing_after (next_of_kept T old) =
    c.in-Ok-Put.ensures.stands ∙ ap (λ (es : List declared.Entry). standing_after (next_of_kept (entries_of es) old)) same_slice in
    let filled : vec_len c.reserve.new.self ≡ length c.reserve.new.self.items = omega (arith, c.reserve.new.self.ok.0) in
    let index : c.len-index.result ≡ length T = c.len-index.ensures ∙ filled ∙ ap length c.reserve.ensures.items ∙ sym (length-map entries entry_of) in
    let put_there : Some e ≡ option_and_then (item_entry c.args.instance item) (slice_get T c.args.instance) =
    c.item_entry-entry.ensures ∙ ap (λ (es : List declared.Entry). option_and_then (item_entry c.args.instance item) (slice_get (entries_of es) c.args.instance)) (c.as_slice-in-Ok-Put.ensures.value ∙ c.reserve.ensures.items) in
    let put : Some e ≡ option_and_then (item_entry old.start item) (slice_get T old.start) =
    put_there ∙ ap (λ n. option_and_then (item_entry n item) (slice_get T n)) (sym place.1) in
    let facts = item_put old.start item (slice_get T old.start) e put in
    let rows : c.push_within-in-Ok-Put.new.items.items ≡ remove running c.args.at ++ r ∷ [] =
    c.push_within-in-Ok-Put.ensures ∙ ap (λ (rs : List Running). rs ++ r ∷ []) c.remove-kept.ensures.items in
    ∥∥₁_elim c.args.self.now.holds ∥∥₁_prop (λ book. ∣ grown_to file entries c.reserve.new.self.items c.push_within.new.items.items c.item_entry-entry.result
    (remove running c.args.at ++ r ∷ []) c.push_within-in-Ok-Put.new.items.items c.push_within.ensures c.reserve.ensures.items rows
    (book_with_put file T running c.args.at old place.0 r c.in-Ok-Put.ensures.start c.one_index_more_is_one_step_more.ensures.more e item puts.0 puts.1 puts.2 put
    (ap Some index) (stands ∙ ap standing_after puts.2)
    (λ bytes is_one may. c.a_longer_interleaving.ensures.longer bytes file T e is_one may)
    (λ short. c.a_longer_short_trace.ensures T e short (λ step is. let never = facts.no_step step in absurd cc)) book) ∣₁)

pub returns-in-Ok-Put-clause-answer : goal.returns-in-Ok-Put-clause-answer
returns-in-Ok-Put-clause-answer c =
    let file = file_of c.args.self.now.file in
    let entries = c.args.self.now.entries.items in
    let T = entries_of entries in
    let running = c.args.self.now.running.items in
    let instance = c.args.instance in
    let old = c.remove-kept.result in
    let item = c.in-Ok-Put.item in
    let e = entry_of c.item_entry-entry.result in
    let place = place_holds running c.args.at instance old c.requires.place c.remove-kept.ensures.value in
    let filled : vec_len c.reserve.new.self ≡ length c.reserve.new.self.items = omega (arith, c.reserve.new.self.ok.0) in
    let index : c.len-index.result ≡ length T = c.len-index.ensures ∙ filled ∙ ap length c.reserve.ensures.items ∙ sym (length-map entries entry_of) in
    let answers : emit_of (next_of_kept T old) ≡ emits.Put item =
    ap (λ (es : List declared.Entry). emit_of (next_of_kept (entries_of es) old)) (sym (c.as_slice.ensures.value ∙ c.reserve.ensures.items)) ∙ sym c.in-Ok-Put.ensures.emit ∙ c.in-Ok-Put.field-0-is in
    let puts = puts_from (next_of_kept T old) item answers in
    let r : Running = record { start = c.take_turn.new.kept.start; landed = Some c.len-index.result; instance = c.take_turn.new.kept.instance } in
    let put_there : Some e ≡ option_and_then (item_entry instance item) (slice_get T instance) =
    c.item_entry-entry.ensures ∙ ap (λ (es : List declared.Entry). option_and_then (item_entry instance item) (slice_get (entries_of es) instance)) (c.as_slice-in-Ok-Put.ensures.value ∙ c.reserve.ensures.items) in
    let put : Some e ≡ option_and_then (item_entry old.start item) (slice_get T old.start) =
    put_there ∙ ap (λ n. option_and_then (item_entry n item) (slice_get T n)) (sym place.1) in
    let next : next_entry file.decls T old.start ≡ Some e =
    ∥∥₁_elim c.args.self.now.holds (next_prop _ _) (λ book.
    put_next file T running c.args.at old place.0 r c.in-Ok-Put.ensures.start c.one_index_more_is_one_step_more.ensures.more e item puts.0 puts.1 puts.2 put book) in
    let facts = item_put instance item (slice_get T instance) e put_there in (
      e,
      subst (λ n. next_entry file.decls T n ≡ Some e) place.1 next,
      facts.own instance ∙ eq-eqb instance instance refl,
      record { at = index; trace = trace_more entries c.reserve.new.self.items _ _ c.push_within.ensures c.reserve.ensures.items },
    )

pub returns-in-Ok-End-clause-answer : goal.returns-in-Ok-End-clause-answer
returns-in-Ok-End-clause-answer c =
    let file = file_of c.args.self.now.file in
    let entries = c.args.self.now.entries.items in
    let T = entries_of entries in
    let running = c.args.self.now.running.items in
    let instance = c.args.instance in
    let old = c.remove-kept.result in
    let outcome = c.in-Ok-End.outcome in
    let place = place_holds running c.args.at instance old c.requires.place c.remove-kept.ensures.value in
    let filled : vec_len c.reserve.new.self ≡ length c.reserve.new.self.items = omega (arith, c.reserve.new.self.ok.0) in
    let index : c.len-index.result ≡ length T = c.len-index.ensures ∙ filled ∙ ap length c.reserve.ensures.items ∙ sym (length-map entries entry_of) in
    let answers : emit_of (next_of_kept T old) ≡ emits.End outcome =
    ap (λ (es : List declared.Entry). emit_of (next_of_kept (entries_of es) old)) (sym (c.as_slice.ensures.value ∙ c.reserve.ensures.items)) ∙ sym c.in-Ok-End.ensures.emit ∙ c.in-Ok-End.field-0-is in
    let next : next_entry file.decls T old.start ≡ Some (End old.start outcome) =
    ∥∥₁_elim c.args.self.now.holds (next_prop _ _) (λ book. end_next file T running c.args.at old place.0 outcome (ends_from (next_of_kept T old) outcome answers) book) in (
      outcome,
      subst (λ n. next_entry file.decls T n ≡ Some (End n outcome)) place.1 next,
      record { at = index; trace = trace_more entries c.reserve.new.self.items _ _ c.push_within-in-Ok-End.ensures c.reserve.ensures.items },
    )
