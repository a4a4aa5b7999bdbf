-- When one label implies another: by choices and corruptions, by words that keep to the law, by rows and by versions alone.
use Rattle.std.proofs.Common.{◌≡◌, ◌↔◌, ℕ, ◌<◌, Bool, true, List, sym, ◌∙◌}
use Rattle.std.specs.List.{list_all}
use Rattle.std.proofs.lemmas.Bool.{and_parts}
use Rattle.dy_label.specs.Labels.{Place, is_open_where, Join}
use Rattle.dy_label.specs.Words.{Atom, StaticLabel, Choice, is_word_open, uses_names_below, KeepsApart, is_version, Implies, ImpliesByVersions}
use Rattle.dy_label.specs.Tables.{opens_in, is_lawful, IsRowOf, ImpliesInRows, IsTableOf, IsWithin}
use Rattle.dy_label.proofs.WordsOpen.{open-meaning_of, open-alike, name_limit}
use Rattle.dy_label.proofs.WordsLaw.{keeps_law, keeps_law-is_word_open}
use Rattle.dy_label.proofs.WordsVersions.{letters, versions, all_versions, is_word_open-versions, KeepsApart-letters}
use Rattle.dy_label.proofs.RowsOfWords.{row_of, row_of-lt, opens_in-row_of, is_lawful-row_of}

-- Where words that keep to the law open the first label, they open the second.
abbrev pub ImpliesByWords : StaticLabel → StaticLabel → Type 0
ImpliesByWords l m = (reads : Atom → Bool) → keeps_law reads ≡ true → is_open_where reads l ≡ true → is_open_where reads m ≡ true

implies-by_words : (l m : StaticLabel) → ImpliesByWords l m → Implies l m
implies-by_words l m h = λ choice corruptions in_l.
    open-meaning_of choice corruptions m
    ∙ h (is_word_open choice corruptions) (keeps_law-is_word_open choice corruptions) (sym (open-meaning_of choice corruptions l) ∙ in_l)

words-by_versions : (l m : StaticLabel) → ImpliesByVersions l m → ImpliesByWords l m
words-by_versions l m h = λ reads law in_l.
    let limit = name_limit (Join l m) in
    let names = limit.0 in
    let uses = and_parts (uses_names_below names l) (uses_names_below names m) limit.1 in
    let places = versions reads names in
    let alike = is_word_open-versions reads names law in
    let meant_l = open-meaning_of letters places l ∙ open-alike (is_word_open letters places) reads names alike l uses.0 in
    let meant_m = open-meaning_of letters places m ∙ open-alike (is_word_open letters places) reads names alike m uses.1 in
    sym meant_m ∙ h letters places (all_versions reads names) (meant_l ∙ in_l)

-- Corruptions of whole sessions and principals add nothing.
pub implies-by_versions : (l m : StaticLabel) → Implies l m ↔ ImpliesByVersions l m
implies-by_versions l m = (λ h. λ choice corruptions versions_alone. h choice corruptions, λ h. implies-by_words l m (words-by_versions l m h))

rows-by_words : (l m : StaticLabel) → ImpliesByWords l m → ImpliesInRows l m
rows-by_words l m h = λ row below lawful. h (opens_in row) lawful

words-by_rows : (l m : StaticLabel) → uses_names_below 9 l ≡ true → uses_names_below 9 m ≡ true → ImpliesInRows l m → ImpliesByWords l m
words-by_rows l m uses_l uses_m h = λ reads law in_l.
    let alike = opens_in-row_of reads in
    let value_l = open-alike (opens_in (row_of reads)) reads 9 alike l uses_l in
    let value_m = open-alike (opens_in (row_of reads)) reads 9 alike m uses_m in
    sym value_m ∙ h (row_of reads) (row_of-lt reads) (is_lawful-row_of reads ∙ law) (value_l ∙ in_l)

-- One label implies another exactly where it does in each lawful row.
pub implies-by_rows : (l m : StaticLabel) → uses_names_below 9 l ≡ true → uses_names_below 9 m ≡ true → Implies l m ↔ ImpliesInRows l m
implies-by_rows l m uses_l uses_m = (
  λ h. rows-by_words l m (words-by_versions l m (λ choice corruptions versions_alone. h choice corruptions)),
  λ h. implies-by_words l m (words-by_rows l m uses_l uses_m h),
)

-- the same, by the tables of the two
pub implies-within : (l m : StaticLabel) (first second : List ℕ) → uses_names_below 9 l ≡ true → uses_names_below 9 m ≡ true
    → IsTableOf l first → IsTableOf m second → IsWithin first second ↔ Implies l m
implies-within l m first second uses_l uses_m of_l of_m =
    let by_rows = implies-by_rows l m uses_l uses_m in (
      λ h. by_rows.1 (λ row below lawful in_l. sym (of_m row below) ∙ h row below lawful (of_l row below ∙ in_l)),
      λ h. λ row below lawful in_first. of_m row below ∙ by_rows.0 h row below lawful (sym (of_l row below) ∙ in_first),
    )

-- Each choice and all corruptions have a lawful row.
pub row_of_choice : (choice : Choice) (corruptions : List Place) → (row : ℕ) × (row < 4096) × (is_lawful row ≡ true) × IsRowOf choice corruptions row
row_of_choice choice corruptions =
    let reads = is_word_open choice corruptions in
    (row_of reads, row_of-lt reads, is_lawful-row_of reads ∙ keeps_law-is_word_open choice corruptions, opens_in-row_of reads)

-- Each lawful row is that of a choice of different principals and of corruptions of versions.
pub choice_of_row : (row : ℕ) → is_lawful row ≡ true
    → (choice : Choice) × (corruptions : List Place) × KeepsApart 9 choice × (list_all is_version corruptions ≡ true) × IsRowOf choice corruptions row
choice_of_row row lawful =
    (letters, versions (opens_in row) 9, KeepsApart-letters 9, all_versions (opens_in row) 9, λ atom h. sym (is_word_open-versions (opens_in row) 9 lawful atom h))
