-- The file at a place, where its name is the one that is looked for.
use Rattle.std.proofs.{Common.{◌≡◌, ◌<◌, ◌∙◌, sym, refl, ap, suc, [], Some, true, length, drop, get_or, ℕ, List, ◌∷◌}, Math.Seq.{drop-cons}}
use Rattle.std.{proofs.lemmas.Option.{slice_get_read}, specs.{Prelude.{slice_get}, Option.{option_map_or}, Str.{bytes_eq}}}
use Rattle.pc_common.specs.{Held.{held_bytes, bytes_at}, declared.held.HeldFile.{HeldFile}}

pub found_at : (files : List HeldFile) (k : ℕ) (name : List ℕ) (file : HeldFile) →
    k < length files → file ≡ get_or files k file → bytes_eq file.name name ≡ true →
    held_bytes (drop k files) name ≡ Some (bytes_at files k)
found_at files k name file within here same =
    let at : slice_get files k ≡ Some file = slice_get_read files (length files) k file refl within here in
    let passed : held_bytes (drop k files) name ≡ held_bytes (file ∷ drop (suc k) files) name =
    let split : drop k files ≡ file ∷ drop (suc k) files =
    drop-cons files k file within ∙ ap (λ f. f ∷ drop (suc k) files) (sym here) in
    ap (λ fs. held_bytes fs name) split in
    let taken : held_bytes (file ∷ drop (suc k) files) name ≡ Some file.bytes = rw same refl in
    passed ∙ taken ∙ sym (ap (λ o. Some (option_map_or (λ f. f.bytes) o [])) at)
