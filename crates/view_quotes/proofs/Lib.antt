mod Quoted
