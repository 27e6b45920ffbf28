use Rattle.std.proofs.Common.{◌≡◌, ◌∙◌, ℕ, List, option_map, find, map, sym, ap, Some}
use Rattle.std.specs.Borrow.{Bor}
use Rattle.std.specs.FinMap.{get-from_entries}
use Rattle.std.specs.Str.{bytes_eq}
use Rattle.std.proofs.lemmas.Cmp.{nat_list_cmp_total}
use Rattle.ll_audit.specs.Inputs.{bytes_of, files_of}
use Rattle.ll_audit.proofs.FilesByName.{found}
use Rattle.ll_audit.proofs.source.MemorySourceSource.bytes_of.Goals as goal

-- the file that a search by name finds is the map's
found_by_name : (files : List (Bor (List ℕ) × Bor (List ℕ))) (name : List ℕ)
    → option_map (λ file. file.1.now) (find (λ file. bytes_eq file.0.now name) files) ≡ bytes_of (files_of files) name
found_by_name files name =
    found files name ∙ sym (get-from_entries nat_list_cmp_total (map (λ file. (file.0.now, file.1.now)) files) name)

pub returns-in-Ok-clause-bytes : goal.returns-in-Ok-clause-bytes
returns-in-Ok-clause-bytes c =
    sym (found_by_name c.args.self.now.files.now c.args.name.now)
    ∙ (sym c.in-Some.ensures ∙ ap Some (sym c.in-Ok.ensures.items))

pub returns-in-None-clause-missing : goal.returns-in-None-clause-missing
returns-in-None-clause-missing c = λ refused. sym (found_by_name c.args.self.now.files.now c.args.name.now) ∙ sym c.in-None.ensures
