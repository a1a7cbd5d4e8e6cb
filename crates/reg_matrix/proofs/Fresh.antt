-- The fresh table is the table of no cells. Assumes nothing.
use mathlib.Core.Logic.{◌⊎◌, inl, inr}
use mathlib.Core.List.{List, []}
use Rattle.reg_matrix.specs.Table.{fresh_table, insert_all}
use Rattle.reg_matrix.specs.declared.Entry.{Entry}
use Rattle.reg_matrix.proofs.Members.{◌∈◌}
use Rattle.reg_matrix.proofs.Sorted.{Parted, insert_all_out, insert_all_new, insert_all_sorted}
use Rattle.reg_matrix.proofs.Cells.{Laid, reserved, cell, IsTable}

pub fresh_law : (fixed : List Entry) → Parted fixed → IsTable fixed [] (fresh_table fixed)
unfolding fresh_table
fresh_law fixed p =
    record {
      sorted = insert_all_sorted fixed [] p (λ b m e n. elim n [ ]) tt;
      out = λ e m. old e (insert_all_out fixed [] e m);
      into = λ e l. new e l;
      nonempty = λ d m. elim m [ ];
    }
  where
    old : (e : Entry) → (e ∈ fixed) ⊎ (e ∈ []) → Laid fixed [] e
    old e (inl m) = reserved m (λ c n. elim n [ ])
    old e (inr m) = elim m [ ]

    new : (e : Entry) → Laid fixed [] e → e ∈ insert_all fixed []
    new e (reserved m h) = insert_all_new fixed [] e m
    new e (cell c m q) = elim m [ ]
