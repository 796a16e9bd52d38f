-- The methods of requests.
use Rattle.std.specs.Prelude.{ℕ, Bool, true, false, List, if◌then◌else◌, bytes_eq, codes}
use Rattle.cube_http.specs.declared.head.MethodKind.{MethodKind}
use Rattle.cube_http.specs.declared.head.MethodKind.TheVariants.{Get, Head, Post, Other}

-- the kind of a method
abbrev pub kind_of : List ℕ → MethodKind
kind_of method =
    if bytes_eq method (codes "GET") then Get
    else if bytes_eq method (codes "HEAD") then Head
    else if bytes_eq method (codes "POST") then Post
    else Other

abbrev pub is_head : MethodKind → Bool
is_head Get = false
is_head Head = true
is_head Post = false
is_head Other = false

abbrev pub is_post : MethodKind → Bool
is_post Get = false
is_post Head = false
is_post Post = true
is_post Other = false

-- GET or HEAD, which ask by the target
abbrev pub is_read : MethodKind → Bool
is_read Get = true
is_read Head = true
is_read Post = false
is_read Other = false
