-- What can be derived from a longer trace.
use Rattle.std.proofs.Common.{◌≡◌, ℕ, true, List, ◌++◌, refl}
use Rattle.std.proofs.lemmas.List.Elements.{filter_map-append}
use Rattle.std.proofs.lemmas.List.Folds.{list_any-append}
use Rattle.dy_term.specs.Terms.{Term}
use Rattle.dy_entry.specs.Entries.{Entry}
use Rattle.dy_entry.specs.LookUps.{corruption_of, is_covered}
use Rattle.dy_entry.specs.Attacker.{Derives, literal, name, sent, injected, certified, forged, corrupted, pair, pk, vk, penc, aead, sign, mac, kdf, hash, fst, snd, pdec, adec, ad, body}
use Rattle.dy_entry.proofs.Traces.{slice_get-prefix}

covered_still : (T more : List Entry) (principal : List ℕ) (session version : ℕ) → is_covered T principal session version ≡ true → is_covered (T ++ more) principal session version ≡ true
covered_still T more principal session version e = rw (filter_map-append corruption_of T more, list_any-append, e) refl

pub derives_still : (T more : List Entry) (value : Term) → Derives T value → Derives (T ++ more) value
derives_still T more _ (literal text) = literal text
derives_still T more _ (name principal) = name principal
derives_still T more _ (sent index instance value at) = sent index instance value (slice_get-prefix T more index _ at)
derives_still T more _ (injected index step value at) = injected index step value (slice_get-prefix T more index _ at)
derives_still T more _ (certified index instance principal usage key at) = certified index instance principal usage key (slice_get-prefix T more index _ at)
derives_still T more _ (forged index step at) = forged index step (slice_get-prefix T more index _ at)
derives_still T more _ (corrupted index instance principal session version tag fields field at covered within) =
    corrupted index instance principal session version tag fields field (slice_get-prefix T more index _ at) (covered_still T more principal session version covered) within
derives_still T more _ (pair a b da db) = pair a b (derives_still T more a da) (derives_still T more b db)
derives_still T more _ (pk k dk) = pk k (derives_still T more k dk)
derives_still T more _ (vk k dk) = vk k (derives_still T more k dk)
derives_still T more _ (penc k m dk dm) = penc k m (derives_still T more k dk) (derives_still T more m dm)
derives_still T more _ (aead k m a dk dm da) = aead k m a (derives_still T more k dk) (derives_still T more m dm) (derives_still T more a da)
derives_still T more _ (sign k m dk dm) = sign k m (derives_still T more k dk) (derives_still T more m dm)
derives_still T more _ (mac k m dk dm) = mac k m (derives_still T more k dk) (derives_still T more m dm)
derives_still T more _ (kdf k c x dk dx) = kdf k c x (derives_still T more k dk) (derives_still T more x dx)
derives_still T more _ (hash m dm) = hash m (derives_still T more m dm)
derives_still T more _ (fst a b d) = fst a b (derives_still T more _ d)
derives_still T more _ (snd a b d) = snd a b (derives_still T more _ d)
derives_still T more _ (pdec k m d dk) = pdec k m (derives_still T more _ d) (derives_still T more k dk)
derives_still T more _ (adec k m a d dk) = adec k m a (derives_still T more _ d) (derives_still T more k dk)
derives_still T more _ (ad k m a d) = ad k m a (derives_still T more _ d)
derives_still T more _ (body k m d) = body k m (derives_still T more _ d)
