-- The keywords by their first bytes.
use Rattle.std.specs.Prelude.{ℕ, Bool, cond, ◌&&◌, ◌||◌, ◌==◌, List, codes}
use Rattle.std.specs.Str.{bytes_eq}

-- those that begin with `_`
abbrev pub is_marked : List ℕ → Bool
is_marked w = bytes_eq (codes "_Alignas") w ||
    (bytes_eq (codes "_Alignof") w || (bytes_eq (codes "_Atomic") w ||
    (bytes_eq (codes "_Bool") w || (bytes_eq (codes "_Complex") w ||
    (bytes_eq (codes "_Generic") w || (bytes_eq (codes "_Imaginary") w ||
    (bytes_eq (codes "_Noreturn") w || (bytes_eq (codes "_Static_assert") w || bytes_eq (codes "_Thread_local") w))))))))

-- those that begin with a letter from `l` on, or with `_`
abbrev pub is_late : ℕ → List ℕ → Bool
is_late b w =
    cond (b == 108) (bytes_eq (codes "long") w)
    (cond (b == 114) (bytes_eq (codes "register") w || (bytes_eq (codes "restrict") w || bytes_eq (codes "return") w))
    (cond (b == 115) (bytes_eq (codes "short") w ||
    (bytes_eq (codes "signed") w || (bytes_eq (codes "sizeof") w ||
    (bytes_eq (codes "static") w || (bytes_eq (codes "struct") w || bytes_eq (codes "switch") w)))))
    (cond (b == 116) (bytes_eq (codes "typedef") w)
    (cond (b == 117) (bytes_eq (codes "union") w || bytes_eq (codes "unsigned") w)
    (cond (b == 118) (bytes_eq (codes "void") w || bytes_eq (codes "volatile") w)
    (cond (b == 119) (bytes_eq (codes "while") w)
    (b == 95 && is_marked w)))))))

-- those that begin with this byte
abbrev pub is_early : ℕ → List ℕ → Bool
is_early b w =
    cond (b == 97) (bytes_eq (codes "auto") w)
    (cond (b == 98) (bytes_eq (codes "break") w)
    (cond (b == 99) (bytes_eq (codes "case") w || (bytes_eq (codes "char") w || (bytes_eq (codes "const") w || bytes_eq (codes "continue") w)))
    (cond (b == 100) (bytes_eq (codes "default") w || (bytes_eq (codes "do") w || bytes_eq (codes "double") w))
    (cond (b == 101) (bytes_eq (codes "else") w || (bytes_eq (codes "enum") w || bytes_eq (codes "extern") w))
    (cond (b == 102) (bytes_eq (codes "float") w || bytes_eq (codes "for") w)
    (cond (b == 103) (bytes_eq (codes "goto") w)
    (cond (b == 105) (bytes_eq (codes "if") w || (bytes_eq (codes "inline") w || bytes_eq (codes "int") w))
    (is_late b w))))))))
