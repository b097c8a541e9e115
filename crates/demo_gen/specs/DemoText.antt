-- The demo text of n functions, each with three jumps, and of a `main` that adds up what they give.
use Rattle.std.specs.Prelude.{ℕ, zero, suc, ◌+◌, ◌%◌, List, [], ◌++◌, codes}
use Rattle.std.specs.Fmt.{decimal}

-- the function with the number k; its variable begins with k modulo 97, and 1
abbrev pub function_text : ℕ → List ℕ
function_text k =
    codes "unsigned f" ++ decimal k ++ codes "(unsigned n) {\n    unsigned s = " ++ decimal (k % 97 + 1)
    ++ codes ";\n    unsigned i = 0;\nagain:\n    if (i >= n) goto done;\n    if (s % 2 == 0) goto even;\n    while (s < 50) {\n        s = s * 3 + 1;\neven:\n        s = s / 2 + 7;\n    }\n    s = s + i;\n    i = i + 1;\n    goto again;\ndone:\n    return s;\n}\n"

-- the functions with the numbers below n
abbrev pub functions : ℕ → List ℕ
functions zero = []
functions (suc n) = functions n ++ function_text n

-- the line of `main` that calls function k
abbrev pub call_text : ℕ → List ℕ
call_text k = codes "    t = t + f" ++ decimal k ++ codes "(3);\n"

-- the calls of the functions with the numbers below n
abbrev pub calls : ℕ → List ℕ
calls zero = []
calls (suc n) = calls n ++ call_text n

abbrev pub demo_text : ℕ → List ℕ
demo_text n =
    functions n ++ codes "int main(void) {\n    unsigned t = 0;\n" ++ calls n ++ codes "    printf(\"%u\\n\", t);\n    return 0;\n}\n"
