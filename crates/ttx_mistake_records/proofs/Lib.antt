mod ForAuthors
